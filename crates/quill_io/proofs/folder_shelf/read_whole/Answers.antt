-- A read lengthens the filled front by what it gave.
use Rattle.std.proofs.Common.{◌≡◌, ℕ, ◌+◌, List, ◌++◌, take, drop, sym, ap, ◌∙◌, subst, arith}
use Rattle.std.proofs.Math.Seq.{take-add}
use Rattle.std.specs.Prelude.{Option, refl}
use Rattle.std.specs.Io.KnownBytes.{Consumes}
use Rattle.std.proofs.KnownBytes.{Consumes-trans}
use Rattle.quill_io.proofs.folder_shelf.read_whole.Goals as goal

-- the front of old was read, and then n bytes, which stand after that front in new
front_grown : (a b c : Option (List ℕ)) (old new : List ℕ) (filled n : ℕ) → take filled new ≡ take filled old
    → Consumes a b (take filled old) → Consumes b c (take n (drop filled new)) → Consumes a c (take (filled + n) new)
front_grown a b c old new filled n front before read =
    subst (Consumes a c) (sym (take-add filled n new ∙ ap (λ l. l ++ take n (drop filled new)) front)) (Consumes-trans a b c _ _ before read)

pub loop-filled-preserved : goal.loop-filled-preserved
loop-filled-preserved g c =
    let read = c.in-Ok.ensures in
    let front = read.front ∙ c.make_room.ensures.front in
    let (_, _, _, before) = c.loop-filled.invariant in
    (refl, read.within, omega (arith, read.len, c.make_room.ensures.bounded), front_grown _ _ _ c.loop-filled.into.items _ _ _ front before read.bytes)
