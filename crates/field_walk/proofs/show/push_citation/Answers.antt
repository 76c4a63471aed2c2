use Rattle.std.proofs.Common.{List, ℕ, [], ◌∷◌}
use Rattle.number_text.proofs.CutLemmas.{cut_then}
use Rattle.field_model.specs.Shown.{note_number_text}
use Rattle.field_walk.proofs.show.push_citation.Goals as goal

pub returns : goal.returns
returns c =
    let number : List ℕ = note_number_text c.args.class c.args.number in
    let front = cut_then c.args.out.now c.push.new.self c.push_note_number.new.out (91 ∷ []) number c.in_ok-push.ensures.ok c.in_ok-push_note_number.ensures in
    cut_then c.args.out.now c.push_note_number.new.out c.push-2.new.self (91 ∷ number) (93 ∷ []) front c.in_ok-push-2.ensures.ok
