use Rattle.std.proofs.Common.{ℕ, sym, ap, ◌∙◌, subst}
use Rattle.std.specs.List.{splice}
use Rattle.node_array.specs.Rows.{rows_of}
use Rattle.node_array.specs.Held.{plain_rows, placed_rows, Holds}
use Rattle.node_array.proofs.HeldRows.{plain_splice, Holds_splice}
use Rattle.node_array.proofs.node_array.NodeArray.splice_rows.Goals as goal

pub invariant_of-self-2 : goal.invariant_of-self-2
invariant_of-self-2 c =
    let held = c.self.inside.rows in
    let rows = c.args.rows.now in
    let same = sym c.self.invariant.body ∙ ap rows_of c.self.view_is in
    let is = c.in_ok-splice.ensures.ok ∙ (ap (λ ts. splice held c.args.from c.args.to ts) (c.deref.ensures.value ∙ c.in_ok-placed.ensures) ∙ ap (λ (n : ℕ). splice held c.args.from c.args.to (placed_rows n rows)) c.depth_at-depth.ensures) in
    subst Holds (sym is) (Holds_splice held rows c.args.from c.args.to c.requires.stands.0 c.self.invariant (ap (λ rs. splice rs c.args.from c.args.to rows) same ∙ c.requires.stands.1))

pub returns-clause-ok : goal.returns-clause-ok
returns-clause-ok c =
    let held = c.self.inside.rows in
    let rows = c.args.rows.now in
    let same = sym c.self.invariant.body ∙ ap rows_of c.self.view_is in
    let put = c.in_ok-splice.ensures.ok ∙ ap (λ ts. splice held c.args.from c.args.to ts) (c.deref.ensures.value ∙ c.in_ok-placed.ensures) in
    let is = put ∙ ap (λ (n : ℕ). splice held c.args.from c.args.to (placed_rows n rows)) c.depth_at-depth.ensures in
    let holds : Holds c.splice.new.self = subst Holds (sym is) (Holds_splice held rows c.args.from c.args.to c.requires.stands.0 c.self.invariant (ap (λ rs. splice rs c.args.from c.args.to rows) same ∙ c.requires.stands.1)) in
    holds.body ∙ (ap plain_rows put ∙ (plain_splice held c.depth_at-depth.result rows c.args.from c.args.to ∙ ap (λ rs. splice rs c.args.from c.args.to rows) same))
