-- What an answer of the check of a whole file says.
use Rattle.std.proofs.Common.{◌≡◌, ℕ, List, length, Option, None, Result, Ok, Err, refl, sym, ap, ◌∙◌}
use Rattle.std.specs.Prelude.{IfOk, IfErr, OnOk}
use Rattle.std.specs.Borrow.{Bor}
use Rattle.std.specs.Global.{Vec}
use Rattle.pst_fault.specs.declared.fault.Fault.{Fault}
use Rattle.pst_fault.specs.Fault.{no_memory}
use Rattle.pst_fault.specs.First.{IsFirst, TellsFirst}
use Rattle.pst_fault.proofs.FirstLemmas.{is_first_then, is_first_after, only_memory}
use Rattle.pst_header.specs.declared.header.Header.{Header}
use Rattle.pst_header.specs.Header.{fields}
use Rattle.pst_page.specs.declared.entry.NodeEntry.{NodeEntry}
use Rattle.pst_block.specs.Table.{Table}
use Rattle.pst_amap.specs.declared.report.MapReport.{MapReport}
use Rattle.pst_amap.specs.Report.{IsReport}
use Rattle.pst_ndb.specs.declared.check.Work.{Work}
use Rattle.pst_ndb.specs.Counts.{AreExpanded, capped}
use Rattle.pst_ndb.specs.Entries.{page_total, block_table, block_list, node_list}
use Rattle.pst_ndb.specs.Fault.{ndb_fault}
use Rattle.pst_ndb.specs.Roots.{all_roots}
use Rattle.pst_ndb.specs.Space.{space_claimed}
use Rattle.pst_reach.specs.pst_store.pst_msg.Counts.{IsRaised}
use Rattle.pst_reach.specs.pst_store.pst_msg.Fault.{messaging_fault}
use Rattle.pst_reach.specs.pst_store.pst_msg.Values.{is_folder, is_message}
use Rattle.pst_reach.specs.pst_store.Fault.{store_fault}
use Rattle.pst_reach.specs.pst_store.Grammar.{IsStore}
use Rattle.pst_reach.specs.pst_store.Parts.{StoreParts, parts_table, parts_entries}
use Rattle.pst_reach.specs.pst_store.Values.{store_in}
use Rattle.pst_reach.specs.pst_store.View.{memory_of_store}
use Rattle.pst_reach.proofs.pst_store.StoreLaws.{store_law, sound_store, table_is, entries_are, lost_is}
use Rattle.pst_reach.proofs.pst_store.StoreLemmas.{is_store}
use Rattle.pst_reach.specs.declared.reached.Reach.{Reach}
use Rattle.pst_reach.specs.Path.{unreached_of}
use Rattle.pst_reach.specs.Levels.{reaches_of, folders_in}
use Rattle.pst_reach.proofs.ReachLaws.{reach_law, unreached_law}
use Rattle.pst_verify.specs.declared.counts.Counts.{Counts}
use Rattle.pst_verify.specs.declared.report.Report.{Report}
use Rattle.pst_verify.specs.declared.verified.Verified.{Verified}
use Rattle.pst_verify.specs.Counts.{count_of}
use Rattle.pst_verify.specs.Report.{IsToldOf, IsReportOf}
use Rattle.pst_verify.specs.Verified.{IsVerified}

-- ---- the first fault

-- what refuses a node database refuses the file
database_first : (I : List ℕ) (f : Fault) → IsFirst (ndb_fault I) f → IsFirst (store_fault I) f
unfolding store_fault
database_first I f h = is_first_then (ndb_fault I) (messaging_fault (block_table I (fields I)) (node_list I (fields I))) f h

pub database_fails : (I J : List ℕ) (f : Fault) → J ≡ I → IsFirst (ndb_fault J) f → IsFirst (store_fault I) f
database_fails I J f same h = rw same at (database_first J f h)

-- what refuses its messaging does, where the node database has no fault
messaging_first : (I : List ℕ) (t : Table) (nodes : List NodeEntry) (f : Fault) → ndb_fault I ≡ None → t ≡ block_table I (fields I) → nodes ≡ node_list I (fields I) → IsFirst (messaging_fault t nodes) f → IsFirst (store_fault I) f
unfolding store_fault
messaging_first I t nodes f none table entries h = is_first_after (ndb_fault I) (messaging_fault (block_table I (fields I)) (node_list I (fields I))) f none (rw (table, entries) at h)

pub messaging_fails : (I J : List ℕ) (t : Table) (nodes : List NodeEntry) (f : Fault) → J ≡ I → ndb_fault J ≡ None → t ≡ block_table J (fields J) → nodes ≡ node_list J (fields J) → IsFirst (messaging_fault t nodes) f → IsFirst (store_fault I) f
messaging_fails I J t nodes f same none table entries h = rw same at (messaging_first J t nodes f none table entries h)

-- ---- the report

abbrev report_with : MapReport → Work → Counts → Vec Reach → Vec ℕ → Report
report_with map work counts reached unreached = record { pages = work.pages; blocks = work.sums; nodes = counts.nodes; folders = counts.folders; messages = counts.messages; order = map.order; lost = map.lost; reached = reached; unreached = unreached; work = work }

-- what was found, in the words of the store that the file spells
spelt_told : (I : List ℕ) (map : MapReport) (work : Work) (counts : Counts) (reached : Vec Reach) (unreached : Vec ℕ) →
    IsReport I (fields I) (space_claimed I (fields I)) map → map.lost.items ≡ (store_in I).lost → work.pages ≡ page_total I (fields I) →
    work.sums ≡ length (block_list I (fields I)) → counts.nodes ≡ length (parts_entries I (store_in I)) →
    counts.folders ≡ count_of is_folder (all_roots (parts_entries I (store_in I))) →
    counts.messages ≡ count_of is_message (all_roots (parts_entries I (store_in I))) →
    reached.items ≡ reaches_of (parts_table I (store_in I)) (parts_entries I (store_in I)) →
    unreached.items ≡ unreached_of (parts_table I (store_in I)) (parts_entries I (store_in I)) →
    IsToldOf I (store_in I) (report_with map work counts reached unreached)
unfolding store_in page_total block_list
spelt_told I map work counts reached unreached is lost pages sums nodes folders messages found left = record {
  pages = pages;
  blocks = sums;
  nodes = nodes;
  folders = folders;
  messages = messages;
  order = is.order;
  lost = lost;
  reached = found;
  unreached = left;
}

-- how much work it was
pub record IsWork (I : List ℕ) (t : Table) (nodes : List NodeEntry) (work : Work) : Type 0 where
  pub pages : work.pages ≡ page_total I (fields I)
  pub sums : work.sums ≡ length (block_list I (fields I))
  pub expansions : AreExpanded t nodes work.expansions
  pub contexts : IsRaised t nodes 0 work.contexts
  pub walked : work.walked ≡ capped (folders_in (reaches_of t nodes))

-- which folders are reached, and which are not
pub record AreFound (t : Table) (nodes : List NodeEntry) (reached : Vec Reach) (unreached : Vec ℕ) : Type 0 where
  pub all : reached.items ≡ reaches_of t nodes
  pub others : unreached.items ≡ unreached_of t nodes

spelt_report : (I : List ℕ) (map : MapReport) (work : Work) (counts : Counts) (reached : Vec Reach) (unreached : Vec ℕ) →
    store_fault I ≡ None → IsToldOf I (store_in I) (report_with map work counts reached unreached) →
    IsWork I (parts_table I (store_in I)) (parts_entries I (store_in I)) work →
    AreFound (parts_table I (store_in I)) (parts_entries I (store_in I)) reached unreached →
    IsReportOf I (store_in I) (report_with map work counts reached unreached)
spelt_report I map work counts reached unreached none told done found =
    let is = sound_store I none in record {
      told = told;
      reached = rw found.all (reach_law I (store_in I) is);
      unreached = rw found.others (unreached_law I (store_in I) is);
      decoded = refl;
      summed = refl;
      expanded = done.expansions;
      contexts = done.contexts;
      walked = done.walked ∙ ap (λ (xs : List Reach). capped (folders_in xs)) (sym found.all);
    }

pub report_is : (I : List ℕ) (h : Header) (t : Table) (entries : List NodeEntry) (map : MapReport) (work : Work) (counts : Counts) (reached : Vec Reach) (unreached : Vec ℕ) →
    h ≡ fields I → t ≡ block_table I h → entries ≡ node_list I h →
    IsReport I (fields I) (space_claimed I (fields I)) map → ndb_fault I ≡ None → messaging_fault t entries ≡ None → IsWork I t entries work →
    AreFound t entries reached unreached →
    counts.nodes ≡ length entries → counts.folders ≡ count_of is_folder (all_roots entries) →
    counts.messages ≡ count_of is_message (all_roots entries) →
    IsReportOf I (store_in I) (report_with map work counts reached unreached)
report_is I h t entries map work counts reached unreached is table nodes_are report sound none done found nodes folders messages =
    let a : t ≡ parts_table I (store_in I) = table ∙ ap (block_table I) is ∙ sym (table_is I) in
    let b : entries ≡ parts_entries I (store_in I) = nodes_are ∙ ap (node_list I) is ∙ sym (entries_are I) in
    let whole : AreFound (parts_table I (store_in I)) (parts_entries I (store_in I)) reached unreached = (rw (a, b) at found) in
    spelt_report I map work counts reached unreached (is_store I h t entries sound is table nodes_are none)
    (spelt_told I map work counts reached unreached report (report.lost ∙ lost_is I sound) done.pages done.sums (rw b at nodes) (rw b at folders) (rw b at messages) whole.all whole.others)
    (rw (a, b) at done) whole

-- ---- the answer

-- a yes where there is no first fault, and a no with it
pub tells : (first : Option Fault) (result : Result Verified Fault) → IfErr result (IsFirst first) → OnOk result (first ≡ None) → TellsFirst result first
tells first (Ok v) refused none = none
tells first (Err f) refused none = refused

-- a yes is one
pub answered : (bytes : Bor (List ℕ)) (result : Result Verified Fault) → OnOk result (store_fault bytes.now ≡ None) → IfOk result (λ v. memory_of_store v.store ≡ bytes) → IfOk result (λ v. IsReportOf bytes.now (store_in bytes.now) v.report) → IfOk result (IsVerified bytes)
answered bytes (Ok v) none view report = record { store = sound_store bytes.now none; view = view; report = report }
answered bytes (Err f) none view report = tt

-- a store is refused for want of memory alone
pub not_refused : (I : List ℕ) (s : StoreParts) (result : Result Verified Fault) → IfErr result (IsFirst (store_fault I)) → IsStore I s → IfErr result (λ f. f ≡ no_memory)
not_refused I s (Ok v) first is = tt
not_refused I s (Err f) first is = only_memory (store_fault I) f ((store_law I s).0 is).0 first
