use Rattle.pst_ndb.specs.Views.{table_of_ndb, nodes_of}
use Rattle.pst_msg.proofs.ListingLemmas.{none_listed}
use Rattle.pst_msg.proofs.MessagingLemmas.{found_contents, not_refused}
use Rattle.pst_msg.proofs.NamedLemmas.{raised_ok}
use Rattle.pst_msg.proofs.check.check_messaging.Goals as goal

pub check_all-answer-requires-clause-known : goal.check_all-answer-requires-clause-known
check_all-answer-requires-clause-known c = c.new-known.ensures.known (table_of_ndb c.args.ndb.now)

pub check_all-answer-requires-clause-listings : goal.check_all-answer-requires-clause-listings
check_all-answer-requires-clause-listings c = none_listed (table_of_ndb c.args.ndb.now) (nodes_of c.args.ndb.now) c.new-listings.result c.new-listings.ensures.none

pub returns-clause-found : goal.returns-clause-found
returns-clause-found c = found_contents c.args.ndb.now c.check_all-answer.result c.is_sound.ensures.trees c.check_all-answer.ensures.exact

pub returns-clause-only : goal.returns-clause-only
returns-clause-only c is = not_refused c.args.ndb.now c.check_all-answer.result c.is_sound.ensures.trees is c.check_all-answer.ensures.exact

pub returns-clause-raised : goal.returns-clause-raised
returns-clause-raised c = raised_ok (table_of_ndb c.args.ndb.now) (nodes_of c.args.ndb.now) c.new-known.result c.check_all-answer.new.known c.args.work.now.contexts c.check_all-answer.result (c.new-known.ensures.named (table_of_ndb c.args.ndb.now) (nodes_of c.args.ndb.now)) c.new-known.ensures.counted c.check_all-answer.ensures.known c.check_all-answer.ensures.grows c.check_all-answer.ensures.there c.are_sorted.ensures
