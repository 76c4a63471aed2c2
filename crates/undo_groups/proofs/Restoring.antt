-- As many undos as runs, up to the most groups that are kept, give back the value before them.
use Rattle.std.proofs.Common.{◌≡◌, ℕ, zero, suc, ◌+◌, ◌-◌, ◌<◌, ◌≤◌, List, [], ◌∷◌, ◌++◌, length, get_or, arith, sym, ◌∙◌, ap, subst, length-append, length-drop}
use Rattle.std.proofs.Math.ListN.{get_or-append}
use Rattle.std.proofs.Math.Seq.{get_or-append_seam}
use Rattle.std.proofs.lemmas.List.{get_or-drop}
use Rattle.undo_groups.specs.declared.way.TheConstants.{MOST_GROUPS}
use Rattle.undo_groups.specs.Lists.{newest}
use Rattle.undo_groups.specs.Past.{Past, Undoes, Follows, Repeated}

-- The value v stands in the list, and n values after it.
record StandsBefore {V : Type 0} (v : V) (n : ℕ) (xs : List V) : Type 0 where
  at : ℕ
  counted : at + suc n ≡ length xs
  is : get_or xs at v ≡ v

-- it stands there with one more after it, where the oldest of 257 are dropped and it isn't one of these
StandsBefore-newest : {V : Type 0} (v x : V) (n : ℕ) (xs : List V) → suc n < MOST_GROUPS → StandsBefore v n xs → StandsBefore v (suc n) (newest MOST_GROUPS (xs ++ x ∷ []))
StandsBefore-newest v x n xs few stands =
    let all = xs ++ x ∷ [] in
    let gone = length all - MOST_GROUPS in
    let counted : length all ≡ length xs + 1 = length-append xs (x ∷ []) in
    let kept : gone ≤ stands.at = omega (arith, counted, stands.counted) in
    let back : gone + (stands.at - gone) ≡ stands.at = omega (arith, kept) in
    let below : stands.at < length xs = omega (arith, stands.counted) in
    record {
      at = stands.at - gone;
      counted = omega (arith, length-drop gone all, counted, stands.counted, kept);
      is = get_or-drop gone all (stands.at - gone) v ∙ (ap (λ k. get_or all k v) back ∙ (get_or-append xs (x ∷ []) v stands.at below ∙ stands.is));
    }

StandsBefore-runs : {V : Type 0} (v : V) (n k : ℕ) (p q : Past V) → n + k < MOST_GROUPS → StandsBefore v k p.earlier → Repeated n Follows p q → StandsBefore v (n + k) q.earlier
StandsBefore-runs v zero k p q few stands runs = subst (λ past. StandsBefore v (0 + k) past.earlier) (sym runs) (subst (λ j. StandsBefore v j p.earlier) (omega arith) stands)
StandsBefore-runs v (suc n) k p q few stands runs =
    let next = runs.0 in
    let one = subst (StandsBefore v (suc k)) (sym runs.1.earlier) (StandsBefore-newest v p.present k p.earlier (omega arith) stands) in
    subst (λ j. StandsBefore v j q.earlier) (omega arith) (StandsBefore-runs v n (suc k) next q (omega arith) one runs.2)

-- undoing all that stand after it, and it, makes it present
undone-present : {V : Type 0} (v : V) (n : ℕ) (p q : Past V) → StandsBefore v n p.earlier → Repeated (suc n) Undoes p q → q.present ≡ v
undone-present v zero p q stands undos =
    let next = undos.0 in
    let counted : length p.earlier ≡ length next.earlier + 1 = ap length undos.1.earlier ∙ length-append next.earlier (next.present ∷ []) in
    let last : stands.at ≡ length next.earlier = omega (arith, counted, stands.counted) in
    ap (λ past. past.present) undos.2
    ∙ (sym (get_or-append_seam next.earlier next.present [] v)
    ∙ (ap (λ k. get_or (next.earlier ++ next.present ∷ []) k v) (sym last)
    ∙ (ap (λ xs. get_or xs stands.at v) (sym undos.1.earlier) ∙ stands.is)))
undone-present v (suc n) p q stands undos =
    let next = undos.0 in
    let counted : length p.earlier ≡ length next.earlier + 1 = ap length undos.1.earlier ∙ length-append next.earlier (next.present ∷ []) in
    let below : stands.at < length next.earlier = omega (arith, counted, stands.counted) in
    undone-present v n next q (record {
      at = stands.at;
      counted = omega (arith, counted, stands.counted);
      is = sym (get_or-append next.earlier (next.present ∷ []) v stands.at below) ∙ (ap (λ xs. get_or xs stands.at v) (sym undos.1.earlier) ∙ stands.is);
    }) undos.2

-- right after a run the former value stands last
StandsBefore-run : {V : Type 0} (p q : Past V) → Follows p q → StandsBefore p.present 0 q.earlier
StandsBefore-run p q run =
    let all = p.earlier ++ p.present ∷ [] in
    let gone = length all - MOST_GROUPS in
    let counted : length all ≡ length p.earlier + 1 = length-append p.earlier (p.present ∷ []) in
    let back : gone + (length p.earlier - gone) ≡ length p.earlier = omega (arith, counted) in
    subst (StandsBefore p.present 0) (sym run.earlier) (record {
      at = length p.earlier - gone;
      counted = omega (arith, length-drop gone all, counted);
      is = get_or-drop gone all (length p.earlier - gone) p.present ∙ (ap (λ k. get_or all k p.present) back ∙ get_or-append_seam p.earlier p.present [] p.present);
    })

pub runs-undone : {V : Type 0} (start middle end : Past V) (n : ℕ) → n ≤ MOST_GROUPS → Repeated n Follows start middle → Repeated n Undoes middle end → end.present ≡ start.present
runs-undone start middle end zero few runs undos = ap (λ p. p.present) (undos ∙ runs)
runs-undone start middle end (suc n) few runs undos =
    let stands = StandsBefore-runs start.present n 0 runs.0 middle (omega arith) (StandsBefore-run start runs.0 runs.1) runs.2 in
    undone-present start.present n middle end (subst (λ k. StandsBefore start.present k middle.earlier) (omega arith) stands) undos
