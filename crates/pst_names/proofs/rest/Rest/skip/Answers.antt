use Rattle.pst_names.specs.Rest.{rest_file}
use Rattle.pst_names.specs.Behind.{behind_spans}
use Rattle.pst_names.proofs.RestLemmas.{skip_own, skip_behind}
use Rattle.pst_names.proofs.rest.Rest.skip.Goals as goal

pub invariant_of-result : goal.invariant_of-result
invariant_of-result c = record {
  own = skip_own (rest_file c.args.self) c.args.self.front.now c.args.self.at c.args.count c.args.self.own c.requires;
  file = c.args.self.file;
}

pub returns-clause-behind : goal.returns-clause-behind
returns-clause-behind c = skip_behind (rest_file c.args.self) c.args.self.front.now c.args.self.at c.args.count (behind_spans c.args.self.behind) c.args.self.own c.requires
