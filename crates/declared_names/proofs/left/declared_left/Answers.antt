use Rattle.std.proofs.Common.{◌≡◌, ◌-◌, ℕ, ◌∙◌, length, map, ap}
use Rattle.std.proofs.lemmas.List.{length-map}
use Rattle.load_model.specs.Left.{all_of, only_elements}
use Rattle.element_parts.specs.Shown.{shown}
use Rattle.declared_names.proofs.LeftLemmas.{lefts_are, as_many}
use Rattle.declared_names.proofs.left.declared_left.Goals as goal

pub returns : goal.returns
returns c = λ declarations stated.
    let lefts = map (λ declared. declared.left) declarations in
    let same = lefts_are c.args.kept.now declarations stated in
    let many : length c.args.kept.now ≡ length declarations = as_many c.args.kept.now lefts same ∙ length-map declarations (λ declared. declared.left) in
    c.both.ensures (all_of lefts) (only_elements (c.args.stated - length declarations)) (c.all_left.ensures lefts same)
    (c.elements-others.ensures ∙ ap (λ (n : ℕ). shown (only_elements n)) (c.saturating_sub.ensures ∙ ap (λ (n : ℕ). c.args.stated - n) many))
