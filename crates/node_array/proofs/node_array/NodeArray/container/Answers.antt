use Rattle.std.proofs.Common.{◌≡◌, ℕ, ◌-◌, Bool, false, cond, eqb, None, Some, take, sym, ap, ◌∙◌, arith}
use Rattle.std.specs.Prelude.{slice_get}
use Rattle.std.proofs.lemmas.Bool.Decides.{nat_tests}
use Rattle.tagged_list.specs.declared.tag.Tag.TheVariants.{Depth}
use Rattle.tagged_list.specs.Tags.{has_tag}
use Rattle.tagged_list.specs.Last.{last_position}
use Rattle.node_array.specs.Containers.{containers_of}
use Rattle.node_array.specs.Held.{around_of}
use Rattle.node_array.proofs.Round.{found, container_known}
use Rattle.node_array.proofs.node_array.NodeArray.container.Goals as goal

pub returns-then-around-eq0 : goal.returns-then-around-eq0
returns-then-around-eq0 c =
    let held = c.self.inside.rows in
    let around = sym (c.around-around.ensures ∙ ap (λ p. around_of p.depth p.row) c.item-placed.ensures) in
    ap (λ body. slice_get (containers_of body) c.args.at) (sym c.self.view_is)
    ∙ (container_known held c.args.at c.get.result.now c.self.invariant c.get.ensures ∙ ap Some (ap (λ (n : ℕ). found n (take c.args.at held)) (around ∙ c.if-around-eq0.true)))

some_round : (n : ℕ) → (n ≡ 0 → ⊥) → eqb n 0 ≡ false
some_round n some = grind (arith, nat_tests)

pub returns : goal.returns
returns c =
    let held = c.self.inside.rows in
    let n = c.around-around.result in
    let around = sym (c.around-around.ensures ∙ ap (λ p. around_of p.depth p.row) c.item-placed.ensures) in
    ap (λ body. slice_get (containers_of body) c.args.at) (sym c.self.view_is)
    ∙ (container_known held c.args.at c.get.result.now c.self.invariant c.get.ensures
    ∙ ap Some (ap (λ (n : ℕ). found n (take c.args.at held)) around ∙ (ap (λ (b : Bool). cond b None (last_position (has_tag (Depth (n - 1))) (take c.args.at held))) (some_round n c.if-around-eq0.false) ∙ sym c.last_before.ensures)))
