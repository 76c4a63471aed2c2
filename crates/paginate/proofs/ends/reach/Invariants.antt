use Rattle.std.proofs.Common.{◌≡◌, ℕ, ◌+◌, ◌<◌, ◌≤◌, take, length, true}
use Rattle.page_model.specs.Breaking.{blanks_of, first_forced, is_reached, notes_of}
use Rattle.paginate.proofs.ends.reach.Given as goal

abbrev pub invariant-rows : goal.invariant-rows
invariant-rows l = record {
  lines : l.lines ≡ l.index + blanks_of (take l.index l.rows);
  notes : l.notes ≡ length l.carried + length (notes_of (take l.index l.rows));
  gap : l.index < length l.rows → blanks_of (take (l.index + 1) l.rows) ≡ blanks_of (take l.index l.rows) + l.blanks;
  reached : (place : ℕ) → 1 ≤ place → place ≤ l.index → is_reached l.room l.carried l.rows place ≡ true;
  unforced : l.index < length l.rows → l.index < first_forced l.rows;
  small : l.lines ≤ l.room;
  few : l.notes ≤ length l.carried + l.room;
}
