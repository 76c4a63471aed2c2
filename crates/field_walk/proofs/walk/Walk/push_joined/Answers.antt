use Rattle.std.proofs.Common.{◌≡◌, ℕ, List, [], ◌∷◌, ◌++◌, rules, ap, sym, ◌∙◌, append_assoc}
use Rattle.field_model.specs.Cut.{cut}
use Rattle.number_text.proofs.CutLemmas.{cut_then}
use Rattle.field_model.specs.Shown.{par_quote}
use Rattle.field_walk.proofs.TextLemmas.{joined_some}
use Rattle.field_walk.proofs.walk.Walk.push_joined.Goals as goal

pub returns : goal.returns
returns c = λ all h.
    let some : c.args.number.now ≡ [] → ⊥ = search rules in
    let name : List ℕ = par_quote all c.args.par.now in
    let front = cut_then c.args.out.now c.push_text.new.out c.push.new.self c.args.number.now (32 ∷ []) c.in_ok-push_text.ensures c.in_ok-push.ensures.ok in
    cut_then c.args.out.now c.push.new.self c.push_par-2.new.out (c.args.number.now ++ 32 ∷ []) name front (c.in_ok-push_par-2.ensures all h)
    ∙ ap (λ (text : List ℕ). cut (c.args.out.now ++ text)) (append_assoc c.args.number.now (32 ∷ []) name ∙ sym (joined_some c.args.number.now name some))
