use Rattle.std.proofs.Common.{◌≡◌, ◌<◌, length, get_or, set, sym, ap, ◌∙◌, arith, subst, OnOk}
use Rattle.std.proofs.lemmas.List.{length-map, get_or-map}
use Rattle.tagged_list.specs.Entries.{tagged_of}
use Rattle.tagged_list.specs.Keeps.{Keeps}
use Rattle.tagged_list.proofs.Finds.{key_is}
use Rattle.tagged_list.proofs.Sets.{Keeps_set, map_set}
use Rattle.tagged_list.proofs.tagged_list.TaggedList.set.Goals as goal
use Rattle.tagged_list.proofs.tagged_list.TaggedList.set.Goals.{in-Ok, in-Err}

pub invariant_of-self : goal.invariant_of-self
invariant_of-self g c =
    let items = c.self.inside.items in
    let spots = c.self.inside.spots in
    let at = c.args.at in
    let own = c.in_ok-tagged.tagged in
    let inside : at < length items = omega (arith, c.requires.in_range, ap length c.self.view_is, length-map items (λ entry. entry.tagged)) in
    elim c.match-replace.branch [
      | in-Ok w ↦ subst (λ xs. Keeps xs spots) (sym w.in-Ok.ensures.ok)
          (Keeps_set items spots at (record { key = c.key_at-key.result; tagged = own }) c.self.invariant inside c.key_at-key.ensures (sym (key_is items at (record { key = c.key_at-key.result; tagged = own }) inside))
          (ap (λ t. t.0) c.in_ok-tagged.ensures.cases
          ∙ (c.requires.same own
          ∙ (ap (λ ts. (get_or ts at own).0) (sym c.self.view_is) ∙ ap (λ t. t.0) (get_or-map (λ entry. entry.tagged) items at (record { key = c.key_at-key.result; tagged = own }) own inside)))))
      | in-Err w ↦ subst (λ xs. Keeps xs spots) (sym w.in-Err.ensures.err) c.self.invariant
    ]

pub returns-clause-ok : goal.returns-clause-ok
returns-clause-ok g c =
    let items = c.self.inside.items in
    let at = c.args.at in
    let own = c.in_ok-tagged.tagged in
    elim c.match-replace.branch [
      | in-Ok w ↦ subst (λ r. OnOk r (tagged_of c.replace.new.self ≡ set c.args.self.now at c.args.tagged.now)) (sym w.result-is)
          (ap tagged_of w.in-Ok.ensures.ok
          ∙ (map_set (λ entry. entry.tagged) items at (record { key = c.key_at-key.result; tagged = own })
          ∙ (ap (λ ts. set ts at own) c.self.view_is ∙ ap (λ t. set c.args.self.now at t) c.in_ok-tagged.ensures.cases)))
      | in-Err w ↦ subst (λ r. OnOk r (tagged_of c.replace.new.self ≡ set c.args.self.now at c.args.tagged.now)) (sym w.result-is) tt
    ]
