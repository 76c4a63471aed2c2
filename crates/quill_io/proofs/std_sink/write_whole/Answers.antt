-- What was written so far is a prefix of the piece, and the next write lengthens it.
use Rattle.std.proofs.Common.{◌≡◌, ℕ, List, ◌++◌, length, take, drop, sym, ap, ◌∙◌, subst, append_assoc, take-append-drop}
use Rattle.std.proofs.lemmas.List.{take_rest, take_at}
use Rattle.std.specs.Prelude.{Option, refl}
use Rattle.std.specs.Io.KnownBytes.{Appends}
use Rattle.std.proofs.KnownBytes.{Appends-trans, Appends-kept}
use Rattle.quill_io.proofs.std_sink.write_whole.Goals as goal

-- what was written is a prefix of the piece
prefix_written : (a b : Option (List ℕ)) (all done rest : List ℕ) → all ≡ done ++ rest → Appends a b done
    → (taken : ℕ) × Appends a b (take taken all)
prefix_written a b all done rest split appended =
    (length done, subst (Appends a b) (sym (ap (take (length done)) split ∙ take_at done rest (length done) refl)) appended)

-- a write of n bytes goes on where the last one ended
moves_front : (all done rest : List ℕ) (n : ℕ) → all ≡ done ++ rest → all ≡ (done ++ take n rest) ++ drop n rest
moves_front all done rest n e =
    e ∙ ap (λ l. done ++ l) (sym (take-append-drop n rest)) ∙ sym (append_assoc done (take n rest) (drop n rest))

pub returns-in-Ok-eq0 : goal.returns-in-Ok-eq0
returns-in-Ok-eq0 g c =
    let (done, split, appended) = c.loop-rest.invariant in
    let rest = c.loop-rest.rest.now in
    let n = c.in-Ok-eq0.field-0 in
    prefix_written _ _ _ (done ++ take n rest) (drop n rest) (moves_front _ done rest n split) (Appends-trans _ _ _ _ _ appended c.in-Ok-eq0.ensures.bytes)

pub loop-rest-preserved : goal.loop-rest-preserved
loop-rest-preserved g c =
    let (done, split, appended) = c.loop-rest.invariant in
    let rest = c.loop-rest.rest.now in
    let n = c.in-Ok.count in
    (done ++ take n rest, moves_front _ done rest n split ∙ ap (λ l. (done ++ take n rest) ++ l) (sym (take_rest rest n)), Appends-trans _ _ _ _ _ appended c.in-Ok.ensures.bytes)

pub returns-in-Err : goal.returns-in-Err
returns-in-Err g c =
    let (done, split, appended) = c.loop-rest.invariant in
    prefix_written _ _ _ done _ split (Appends-kept _ _ _ done appended c.in-Err.ensures.bytes)

pub returns-in-Err-flush : goal.returns-in-Err-flush
returns-in-Err-flush g c =
    let (done, split, appended) = c.loop-rest.invariant in
    prefix_written _ _ _ done _ split (Appends-kept _ _ _ done appended c.in-Err-flush.ensures.bytes)
