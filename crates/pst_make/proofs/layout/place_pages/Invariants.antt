use Rattle.std.proofs.Common.{◌≡◌, ◌-◌, length}
use Rattle.std.specs.List.{All}
use Rattle.pst_make.specs.Layout.{after_pages, IsPageBelow}
use Rattle.pst_make.proofs.layout.place_pages.Given as goal

-- what is left to be placed ends where all of it ends
abbrev pub invariant-loop-number : goal.invariant-loop-number
invariant-loop-number l = record {
  count : length l.pages.items ≡ l.number;
  next : after_pages l.cursor.next (l.count - l.number) ≡ after_pages l.fn.cursor.next l.count;
  below : All (IsPageBelow l.cursor.next) l.pages.items;
}
