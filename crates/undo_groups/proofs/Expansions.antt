-- What operations come to, as a loop over them goes on.
use Rattle.std.proofs.Common.{◌≡◌, ℕ, ◌+◌, List, [], ◌∷◌, ◌++◌, Result, Ok, Err, fold, sym, subst, ◌∙◌, ap, drop, length, get_or, ◌<◌, refl, append_assoc, add_assoc, zero-add, add-zero, add-one, suc}
use Rattle.std.proofs.Math.Seq.{drop-cons}
use Rattle.std.proofs.lemmas.Grind.{fold-append}
use Rattle.undo_groups.specs.Meaning.{Meaning, FitInOrder, answers}
use Rattle.undo_groups.proofs.Inverses.{FitInOrder-append, value-fold}
use Rattle.undo_groups.specs.Expansion.{Refusal, continued, begun, expanded}

-- the items from i on, where that at i is x
pub drop-item : {X : Type 0} (xs : List X) (i : ℕ) (x : X) → i < length xs → x ≡ get_or xs i x → drop i xs ≡ x ∷ drop (i + 1) xs
drop-item xs i x below is = drop-cons xs i x below ∙ (ap (λ y. y ∷ drop (suc i) xs) (sym is) ∙ ap (λ n. x ∷ drop n xs) (sym (add-one i)))

pub answers-append : {V P : Type 0} (m : Meaning V P) (v : V) (ps qs : List P) → answers m v (ps ++ qs) ≡ answers m v ps ++ answers m (fold m.changed v ps) qs
answers-append m v [] qs = refl
answers-append m v (p ∷ ps) qs = ap (λ rest. m.answer v p ∷ rest) (answers-append m (m.changed v p) ps qs)

pub continued-none : {P W : Type 0} (r : Result (List P) (Refusal W)) → continued 0 [] r ≡ r
continued-none (Ok ps) = refl
continued-none (Err refusal) = ap (λ n. Err (record { index = n; why = refusal.why })) (zero-add refusal.index)

pub continued-continued : {P W : Type 0} (n : ℕ) (ps qs : List P) (r : Result (List P) (Refusal W)) → continued n ps (continued 1 qs r) ≡ continued (n + 1) (ps ++ qs) r
continued-continued n ps qs (Ok more) = ap Ok (sym (append_assoc ps qs more))
continued-continued n ps qs (Err refusal) = ap (λ k. Err (record { index = k; why = refusal.why })) (sym (add_assoc n 1 refusal.index))

module _ {S O P W : Type 0} (expansion : S → O → Result (List P) W) (after : S → P → S) where
  -- what is left to run, where the next operation is op
  pub expanded-next : (s : S) (ops : List O) (i : ℕ) (op : O) → i < length ops → op ≡ get_or ops i op
      → expanded expansion after s (drop i ops) ≡ begun (expansion s op) (λ ps. expanded expansion after (fold after s ps) (drop (i + 1) ops))
  expanded-next s ops i op below is =
      ap (expanded expansion after s) (drop-item ops i op below is)

  -- the operation is expanded: its primitives come to those so far
  pub expanded-on : (s : S) (ops : List O) (i : ℕ) (op : O) (so_far ps : List P) → i < length ops → op ≡ get_or ops i op → expansion s op ≡ Ok ps
      → continued (i + 1) (so_far ++ ps) (expanded expansion after (fold after s ps) (drop (i + 1) ops)) ≡ continued i so_far (expanded expansion after s (drop i ops))
  expanded-on s ops i op so_far ps below is gives =
      sym (continued-continued i so_far ps (expanded expansion after (fold after s ps) (drop (i + 1) ops)))
      ∙ sym (ap (continued i so_far) (expanded-next s ops i op below is
      ∙ ap (λ r. begun r (λ qs. expanded expansion after (fold after s qs) (drop (i + 1) ops))) gives))

  -- it is refused
  pub expanded-refused : (s : S) (ops : List O) (i : ℕ) (op : O) (so_far : List P) (why : W) → i < length ops → op ≡ get_or ops i op → expansion s op ≡ Err why
      → continued i so_far (expanded expansion after s (drop i ops)) ≡ Err (record { index = i; why = why })
  expanded-refused s ops i op so_far why below is gives =
      ap (continued i so_far) (expanded-next s ops i op below is
      ∙ ap (λ r. begun r (λ qs. expanded expansion after (fold after s qs) (drop (i + 1) ops))) gives)
      ∙ ap (λ n. Err (record { index = n; why = why })) (add-zero i)

-- The first i operations were expanded and their primitives applied: what they came to, and what the others decide.
pub record RunSoFar {S O P W V : Type 0} (expansion : S → O → Result (List P) W) (after : S → P → S) (value : S → V) (m : Meaning V P)
    (s : S) (ops : List O) (i : ℕ) (s' : S) (prims answered : List P) : Type 0 where
  pub fits : FitInOrder m (value s) prims
  pub changed : s' ≡ fold after s prims
  pub answers_are : answered ≡ answers m (value s) prims
  pub comes_to : continued i prims (expanded expansion after s' (drop i ops)) ≡ expanded expansion after s ops

module _ {S O P W V : Type 0} (expansion : S → O → Result (List P) W) (after : S → P → S) (value : S → V) (m : Meaning V P)
    (value_after : (s : S) (p : P) → m.fits (value s) p → value (after s p) ≡ m.changed (value s) p)
    (s : S) (ops : List O) (i : ℕ) (s' : S) (prims answered : List P) (so_far : RunSoFar expansion after value m s ops i s' prims answered) where
  value_is : value s' ≡ fold m.changed (value s) prims
  value_is = ap value so_far.changed ∙ value-fold m after value value_after s prims so_far.fits

  pub RunSoFar-more : (op : O) (ps slice : List P) (s2 : S) (prims2 answered2 : List P)
      → i < length ops → op ≡ get_or ops i op → expansion s' op ≡ Ok ps → FitInOrder m (value s') ps → slice ≡ ps
      → s2 ≡ fold after s' slice → answered2 ≡ answered ++ answers m (value s') slice → prims2 ≡ prims ++ ps
      → RunSoFar expansion after value m s ops (i + 1) s2 prims2 answered2
  RunSoFar-more op ps slice s2 prims2 answered2 below is gives fits slice_is target_slice answers_slice prims_are =
      let target_is = target_slice ∙ ap (fold after s') slice_is in
      let answers_are = answers_slice ∙ ap (λ xs. answered ++ answers m (value s') xs) slice_is in
      subst (λ xs. RunSoFar expansion after value m s ops (i + 1) s2 xs answered2) (sym prims_are) (record {
        fits = FitInOrder-append m (value s) prims ps so_far.fits (subst (λ v. FitInOrder m v ps) value_is fits);
        changed = target_is ∙ (ap (λ t. fold after t ps) so_far.changed ∙ sym (fold-append after s prims ps));
        answers_are =
            answers_are
            ∙ (ap (λ xs. xs ++ answers m (value s') ps) so_far.answers_are
            ∙ (ap (λ v. answers m (value s) prims ++ answers m v ps) value_is ∙ sym (answers-append m (value s) prims ps)));
        comes_to =
            ap (λ t. continued (i + 1) (prims ++ ps) (expanded expansion after t (drop (i + 1) ops))) target_is
            ∙ (expanded-on expansion after s' ops i op prims ps below is gives ∙ so_far.comes_to);
      })
