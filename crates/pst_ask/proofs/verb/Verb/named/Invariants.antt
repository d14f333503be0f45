use Rattle.std.proofs.Common.{◌≡◌, find, drop}
use Rattle.std.specs.Str.{bytes_eq}
use Rattle.pst_ask.specs.Verbs.{name_of, verbs, verb_of}
use Rattle.pst_ask.proofs.verb.Verb.named.Given as goal

-- none of the commands before has the name
abbrev pub invariant-loop-verb : goal.invariant-loop-verb
invariant-loop-verb l = record {
  all : l.verb-items ≡ verbs;
  left : find (λ v. bytes_eq (name_of v) l.name) (drop l.verb-index l.verb-items) ≡ verb_of l.name;
}
