use Rattle.std.proofs.Common.{◌≡◌, ℕ, List, [], ◌∷◌, ◌++◌, rules, sym, ◌∙◌, append_assoc}
use Rattle.field_model.specs.Shown.{joined}
use Rattle.number_text.proofs.CutLemmas.{cut_then, cut_last}
use Rattle.page_print.proofs.Joined.{joined_some}
use Rattle.page_print.proofs.fields.push_joined.Goals as goal

pub returns : goal.returns
returns c =
    let some : c.args.number.now ≡ [] → ⊥ = search rules in
    let old : List ℕ = c.args.out.now in
    let number : List ℕ = c.args.number.now in
    let name : List ℕ = c.args.name.now in
    let front = cut_then old c.push_text-2.new.out c.push.new.self number (32 ∷ []) c.in_ok-push_text.ensures c.in_ok-push.ensures.ok in
    cut_last c.push_text-3.result old c.push.new.self c.push_text-3.new.out (number ++ 32 ∷ []) name (joined number name) front
    (append_assoc number (32 ∷ []) name ∙ sym (joined_some number name some)) c.push_text-3.ensures
