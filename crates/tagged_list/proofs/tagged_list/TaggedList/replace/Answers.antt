use Rattle.std.proofs.Common.{◌+◌, length, sym, ap, ◌∙◌, arith, subst}
use Rattle.std.specs.List.{splice}
use Rattle.std.proofs.lemmas.List.{length-map}
use Rattle.tagged_list.specs.Entries.{tagged_of, spots_of}
use Rattle.tagged_list.specs.Keeps.{times, Keeps}
use Rattle.tagged_list.proofs.Parts.{spots_split, Keeps_splice, tagged_splice}
use Rattle.tagged_list.proofs.tagged_list.TaggedList.replace.Goals as goal

pub forget-requires-clause-there : goal.forget-requires-clause-there
forget-requires-clause-there g c = λ x.
    omega (arith, ap (times x) c.in_ok-spots.ensures, c.self.invariant.same x, spots_split x c.self.inside.items c.args.low c.args.high c.requires.in_order)

pub invariant_of-self : goal.invariant_of-self
invariant_of-self g c =
    let items = c.self.inside.items in
    let entries = c.in_ok-entries.entries.items in
    let is = c.in_ok-splice.ensures.ok ∙ (ap (λ xs. splice xs c.args.low c.args.high c.in_ok-entries-2.entries) c.in_ok-items.ensures ∙ ap (λ xs. splice items c.args.low c.args.high xs) c.in_ok-entries-2.ensures) in
    subst (λ xs. Keeps xs c.remember.new.spots) (sym is)
    (Keeps_splice items entries c.self.inside.spots c.forget.new.spots c.remember.new.spots c.args.low c.args.high c.self.invariant c.requires.in_order (omega (arith, ap length c.self.view_is, length-map items (λ entry. entry.tagged))) c.in_ok-entries.ensures.rising c.in_ok-entries.ensures.bounded c.in_ok-entries.ensures.above c.in_ok-entries.ensures.below (λ x. c.in_ok-forget.ensures.left x ∙ ap (times x) c.in_ok-spots.ensures) c.in_ok-remember.ensures.sorted (λ x. c.in_ok-remember.ensures.more x ∙ ap (λ es. times x c.forget.new.spots + times x (spots_of es)) c.deref.ensures.value))

pub returns-clause-ok : goal.returns-clause-ok
returns-clause-ok g c =
    let items = c.self.inside.items in
    let entries = c.in_ok-entries.entries.items in
    let is = c.in_ok-splice.ensures.ok ∙ (ap (λ xs. splice xs c.args.low c.args.high c.in_ok-entries-2.entries) c.in_ok-items.ensures ∙ ap (λ xs. splice items c.args.low c.args.high xs) c.in_ok-entries-2.ensures) in
    ap tagged_of is
    ∙ (tagged_splice items entries c.args.low c.args.high
    ∙ (ap (λ xs. splice xs c.args.low c.args.high (tagged_of entries)) c.self.view_is
    ∙ ap (λ xs. splice c.args.self.now c.args.low c.args.high xs) c.in_ok-entries.ensures.tagged))
