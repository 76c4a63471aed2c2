use Rattle.std.proofs.Common.{◌++◌, ℕ, List, chars, ap, ◌∙◌}
use Rattle.std.specs.Prelude.{string_bytes}
use Rattle.field_model.specs.Cut.{cut}
use Rattle.field_model.specs.Shown.{piece_text}
use Rattle.field_walk.proofs.TextLemmas.{piece_kept}
use Rattle.field_walk.proofs.walk.Walk.push_whole.Goals as goal

pub returns : goal.returns
returns c = λ all h.
    c.in_ok-push_chars.ensures
    ∙ ap (λ (more : List ℕ). chars (string_bytes c.args.text.now) ++ more)
    (c.get.ensures ∙ c.into_txt-shown.ensures.same ∙ c.in_ok-push_piece.ensures all h ∙ ap (λ (old : List ℕ). cut (old ++ piece_text all c.args.piece.now)) c.new-shown.ensures ∙ piece_kept all c.args.piece.now)
