use Rattle.std.proofs.Common.{◌≡◌, ℕ, List, [], ◌∷◌, length, get_or, suc, refl, sym, ap, ◌∙◌, arith}
use Rattle.std.specs.List.{splice}
use Rattle.tagged_list.proofs.Sets.{splice_one}
use Rattle.tagged_list.proofs.tagged_list.TaggedList.splice.Goals as goal

single : {X : Type 0} (xs : List X) (d : X) → length xs ≡ 1 → xs ≡ get_or xs 0 d ∷ []
single [] d long = absurd (omega arith)
single (x ∷ []) d long = refl
single (x ∷ y ∷ ys) d long = absurd (omega arith)

pub returns-then-is_kept-clause-ok : goal.returns-then-is_kept-clause-ok
returns-then-is_kept-clause-ok g c =
    let one = c.index-tagged-0.result in
    let to : c.args.to ≡ suc c.args.from = c.if-is_kept.ensures.one refl in
    let alone : c.args.tagged.now ≡ one ∷ [] = single c.args.tagged.now one (c.if-is_kept.ensures.alone refl) ∙ ap (λ t. t ∷ []) (sym c.index-tagged-0.is) in
    c.in_ok-set.ensures.ok
    ∙ (sym (splice_one c.args.self.now c.args.from one (omega arith))
    ∙ (ap (λ (n : ℕ). splice c.args.self.now c.args.from n (one ∷ [])) (sym to) ∙ ap (λ ts. splice c.args.self.now c.args.from c.args.to ts) (sym alone)))
