-- Walks to ancestors.
use Rattle.std.proofs.Common.{◌≡◌, ℕ, zero, suc, ◌+◌, ◌-◌, ◌<◌, ◌≤◌, ◌==◌, ◌⊎◌, inl, inr, Bool, true, false, cond, List, length, get_or, set, refl, sym, ap, ◌∙◌, subst, arith, Option, None}
use Rattle.std.specs.Prelude.{unwrap_or}
use Rattle.std.specs.Bool.{Decides}
use Rattle.std.proofs.lemmas.List.{get_or_past, get_or-set_same, get_or-set_other, length-set}
use Rattle.std.proofs.lemmas.List.Sums.{sum_by-set}
use Rattle.std.proofs.lemmas.Bool.{cases_lt, cases_eq, ne_eqb, false_from_ne_true, false≢true}
use Rattle.parent_loops.specs.Ancestors.{parent_of, ancestor, IsOwnAncestor}
use Rattle.parent_loops.specs.Walked.{met_at, AreDecided, IsWalked, AreMarked}

-- one that was met is one of all
within : (order : List ℕ) (one : ℕ) → 0 < met_at order one → one < length order
within order one met = elim (cases_lt one (length order)) [ inl l ↦ l | inr past ↦ let none = get_or_past order one 0 past in absurd (omega (arith, none, met)) ]

not_zero : (n : ℕ) → ◌≡◌ {A = ℕ} (cond ((n + 1) == 0) 1 0) 0
not_zero n = ap {B = ℕ} (λ (b : Bool). cond b 1 0) (ne_eqb (n + 1) 0 (λ e. omega (arith, e)))

module _ (parents : List (Option ℕ)) where
  abbrev up : ℕ → ℕ
  up = parent_of parents

  abbrev above : ℕ → ℕ → ℕ
  above = ancestor parents

  outside : (one : ℕ) → length parents ≤ one → up one ≡ length parents
  outside one past = ap (λ (parent : Option ℕ). unwrap_or parent (length parents)) (get_or_past parents one None past)

  pub above_more : (steps one : ℕ) → above (suc steps) one ≡ up (above steps one)
  above_more zero one = refl
  above_more (suc steps) one = above_more steps (up one)

  above_sum : (some more one : ℕ) → above (some + more) one ≡ above more (above some one)
  above_sum zero more one = let e : 0 + more ≡ more = omega arith in ap (λ (n : ℕ). above n one) e
  above_sum (suc some) more one = let e : suc some + more ≡ suc (some + more) = omega arith in ap (λ (n : ℕ). above n one) e ∙ above_sum some more (up one)

  -- ancestors stay among things whose parents are among them
  stay : (Among : ℕ → Type 0) → ((one : ℕ) → Among one → Among (up one)) → (steps one : ℕ) → Among one → Among (above steps one)
  stay Among closed zero one here = here
  stay Among closed (suc steps) one here = stay Among closed steps (up one) (closed one here)

  -- one step more of a walk
  pub walked_more : (from first : ℕ) (old new : List ℕ) (count at : ℕ) → IsWalked parents from first old new count at → at < length parents → met_at new at ≡ 0
      → IsWalked parents from first old (set new at (count + 1)) (count + 1) (up at)
  walked_more from first old new count at w inside unmet_at = record {
    orders = length-set new at (count + 1) ∙ w.orders;
    room = let sum = sum_by-set (λ met. cond (met == 0) 1 0) new at (count + 1) 0 at_inside in
        let was : ◌≡◌ {A = ℕ} (cond (met_at new at == 0) 1 0) 1 = ap {B = ℕ} (λ (n : ℕ). cond (n == 0) 1 0) unmet_at in
        let is : ◌≡◌ {A = ℕ} (cond ((count + 1) == 0) 1 0) 0 = not_zero count in
        let room = w.room in
        omega (arith, sum, was, is, room);
    forward = let f = w.forward in omega (arith, f);
    here = let f = w.forward in let e : (count + 1) - first ≡ suc (count - first) = omega (arith, f) in ap (λ (n : ℕ). above n from) e ∙ above_more (count - first) from ∙ ap up w.here;
    counted = λ one. elim (cases_eq one at) [
      | inl e ↦ let new_is = same one e in omega (arith, new_is)
      | inr n ↦ let new_is = other one n in let c = w.counted one in omega (arith, new_is, c)
    ];
    kept = λ one l. elim (cases_eq one at) [
      | inl e ↦ let new_is = same one e in let f = w.forward in absurd (omega (arith, new_is, f, l))
      | inr n ↦ other one n ∙ w.kept one (let new_is = other one n in omega (arith, new_is, l))
    ];
    fresh = λ one l. elim (cases_eq one at) [
      | inl e ↦ ap (met_at old) e ∙ sym (w.kept at (omega (arith, unmet_at))) ∙ unmet_at
      | inr n ↦ w.fresh one (let new_is = other one n in omega (arith, new_is, l))
    ];
    walked = λ one l. elim (cases_eq one at) [
      | inl e ↦ let f = w.forward in let new_is = same one e in
          let k : met_at (set new at (count + 1)) one - (first + 1) ≡ count - first = omega (arith, new_is, f) in
          ap (λ (n : ℕ). above n from) k ∙ w.here ∙ sym e
      | inr n ↦ let new_is = other one n in
          ap (λ (met : ℕ). above (met - (first + 1)) from) new_is ∙ w.walked one (omega (arith, new_is, l))
    ];
    goes_on = λ one l. elim (cases_eq one at) [
      | inl e ↦ inl (same one e, ap up e)
      | inr n ↦ let new_is = other one n in elim (w.goes_on one (omega (arith, new_is, l))) [
        | inl last ↦ inr (same (up one) last.1 ∙ ap (λ (m : ℕ). m + 1) (sym last.0 ∙ sym new_is))
        | inr next ↦ let later : (up one ≡ at → ⊥) = (λ e. let zero_there : met_at new (up one) ≡ 0 = ap (met_at new) e ∙ unmet_at in omega (arith, zero_there, next)) in
            inr (other (up one) later ∙ next ∙ ap (λ (m : ℕ). m + 1) (sym new_is))
      ]
    ];
    begun = λ l. elim (cases_eq first count) [
      | inl e ↦ let k : count - first ≡ 0 = omega (arith, e) in
          let is : from ≡ at = sym (ap (λ (n : ℕ). above n from) k) ∙ w.here in
          same from is ∙ ap (λ (n : ℕ). n + 1) (sym e)
      | inr n ↦ let f = w.forward in let before : first < count = omega (arith, f, n) in
          let was = w.begun before in
          let later : (from ≡ at → ⊥) = (λ e. let zero_there : met_at new from ≡ 0 = ap (met_at new) e ∙ unmet_at in omega (arith, zero_there, was)) in
          other from later ∙ was
    ];
  } where
    at_inside : at < length new
    at_inside = let o = w.orders in omega (arith, o, inside)

    same : (one : ℕ) → one ≡ at → met_at (set new at (count + 1)) one ≡ count + 1
    same one e = ap (met_at (set new at (count + 1))) e ∙ get_or-set_same new at (count + 1) 0 at_inside

    other : (one : ℕ) → (one ≡ at → ⊥) → met_at (set new at (count + 1)) one ≡ met_at new one
    other one n = get_or-set_other new at one (count + 1) 0 n

  -- no step of a walk
  pub walked_none : (from : ℕ) (order : List ℕ) (loops : List Bool) (count : ℕ) → AreDecided parents order loops count → IsWalked parents from count order order count from
  walked_none from order loops count d = record {
    orders = d.orders;
    room = d.room;
    forward = omega arith;
    here = let e : count - count ≡ 0 = omega arith in ap (λ (n : ℕ). above n from) e;
    counted = d.counted;
    kept = λ one l. refl;
    fresh = λ one l. let c = d.counted one in absurd (omega (arith, c, l));
    walked = λ one l. let c = d.counted one in absurd (omega (arith, c, l));
    goes_on = λ one l. let c = d.counted one in absurd (omega (arith, c, l));
    begun = λ l. absurd (omega (arith, l));
  }

  module _ (from first : ℕ) (old new : List ℕ) (loops : List Bool) (count at : ℕ) (d : AreDecided parents old loops first) (w : IsWalked parents from first old new count at) where
    -- what was met before the walk
    met_before : (one : ℕ) → 0 < met_at old one → met_at new one ≡ met_at old one
    met_before one met = elim (cases_lt first (met_at new one)) [
      | inl l ↦ let none = w.fresh one l in absurd (omega (arith, none, met))
      | inr l ↦ w.kept one l
    ]

    pub still_met : (one : ℕ) → 0 < met_at old one → 0 < met_at new one
    still_met one met = let e = met_before one met in omega (arith, e, met)

    -- what stands behind one on the walk, or was met before it, or isn't there
    abbrev Behind : ℕ → ℕ → Type 0
    Behind one other = (length parents ≤ other) ⊎ (((0 < met_at new other) × (met_at new other ≤ first)) ⊎ (met_at new one < met_at new other))

    further : (one other : ℕ) → first < met_at new one → Behind one at → met_at new one ≤ met_at new other → Behind one (up other)
    further one other l last e = elim (w.goes_on other (omega (arith, l, e))) [
      | inl end ↦ subst (Behind one) (sym end.1) last
      | inr next ↦ inr (inr (omega (arith, next, e)))
    ]

    behind_closed : (one : ℕ) → first < met_at new one → Behind one at → (other : ℕ) → Behind one other → Behind one (up other)
    behind_closed one l last other behind = elim behind [
      | inl past ↦ let e = outside other past in inl (omega (arith, e))
      | inr inside ↦ elim inside [
        | inl before ↦ let e = w.kept other before.1 in let b = before.0 in elim (d.closed other (omega (arith, e, b))) [
          | inl past ↦ inl past
          | inr met ↦ let same = met_before (up other) met in let c = d.counted (up other) in inr (inl (omega (arith, same, met), omega (arith, same, c)))
        ]
        | inr later ↦ further one other l last (omega (arith, later))
      ]
    ]

    -- one on the walk that doesn't come back
    straight : (one : ℕ) → first < met_at new one → Behind one at → IsOwnAncestor parents one → ⊥
    straight one l last loop =
        let there : Behind one (above loop.0 (up one)) = stay (Behind one) (behind_closed one l last) loop.0 (up one) (further one one l last (omega arith)) in
        let back : Behind one one = subst (Behind one) loop.2 there in
        elim back [
          | inl past ↦ let inside = within new one (omega (arith, l)) in let o = w.orders in omega (arith, past, inside, o)
          | inr inside ↦ elim inside [ inl before ↦ let b = before.1 in omega (arith, l, b) | inr later ↦ omega (arith, later) ]
        ]

    -- parents of what was met are met
    closed_after : (0 < met_at new at) ⊎ (length parents ≤ at) → (one : ℕ) → 0 < met_at new one → (length parents ≤ up one) ⊎ (0 < met_at new (up one))
    closed_after ended one met = elim (cases_lt first (met_at new one)) [
      | inl l ↦ elim (w.goes_on one l) [
        | inl end ↦ elim ended [
          | inl there ↦ inr (subst (λ (other : ℕ). 0 < met_at new other) (sym end.1) there)
          | inr past ↦ inl (subst (λ (other : ℕ). length parents ≤ other) (sym end.1) past)
        ]
        | inr next ↦ inr (omega (arith, next))
      ]
      | inr l ↦ let e = w.kept one l in elim (d.closed one (omega (arith, e, met))) [ inl past ↦ inl past | inr there ↦ inr (still_met (up one) there) ]
    ]

    -- a walk that ends outside, or at what was met before
    pub decided_straight : (length parents ≤ at) ⊎ ((0 < met_at new at) × (met_at new at ≤ first)) → AreDecided parents new loops count
    decided_straight ended = record {
      orders = w.orders;
      flags = d.flags;
      room = w.room;
      counted = w.counted;
      closed = closed_after (elim ended [ inl past ↦ inr past | inr before ↦ inl before.0 ]);
      exact = λ one met. elim (cases_lt first (met_at new one)) [
        | inl l ↦ let unset = d.unset one (w.fresh one l) in
            (λ e. absurd (false≢true (sym unset ∙ e)), λ loop. absurd (straight one l (elim ended [ inl past ↦ inl past | inr before ↦ inr (inl before) ]) loop))
        | inr l ↦ let e = w.kept one l in d.exact one (omega (arith, e, met))
      ];
      unset = λ one none. d.unset one (sym (w.kept one (omega (arith, none))) ∙ none);
    }

    module _ (l : first < met_at new at) where
      abbrev round : ℕ
      round = (count - met_at new at) + 1

      -- the walk comes back to where it goes on
      comes_back : above round at ≡ at
      comes_back =
          let c = w.counted at in
          let e : count - first ≡ (met_at new at - (first + 1)) + round = omega (arith, c, l) in
          sym (ap (above round) (w.walked at l)) ∙ sym (above_sum (met_at new at - (first + 1)) round from) ∙ ap (λ (n : ℕ). above n from) (sym e) ∙ w.here

      -- what it meets on its way round
      pub on_round : (steps : ℕ) → steps < round → met_at new (above steps at) ≡ met_at new at + steps
      on_round zero k = omega arith
      on_round (suc steps) k =
          let met : met_at new (above steps at) ≡ met_at new at + steps = on_round steps (omega (arith, k)) in
          let c = w.counted at in
          ap (met_at new) (above_more steps at) ∙ elim (w.goes_on (above steps at) (omega (arith, met, l))) [
            | inl end ↦ let last = end.0 in absurd (omega (arith, last, met, k, c))
            | inr next ↦ omega (arith, next, met)
          ]

      pub inside_round : (steps : ℕ) → steps < round → above steps at < length parents
      inside_round steps k =
          let met = on_round steps k in
          let inside = within new (above steps at) (omega (arith, met, l)) in
          let o = w.orders in
          omega (arith, inside, o)

      loops_round : (steps : ℕ) → steps < round → IsOwnAncestor parents (above steps at)
      loops_round steps k =
          let c = w.counted at in
          let room = w.room in
          let few : count - met_at new at ≤ length parents = omega (arith, room) in
          let one_more : suc (count - met_at new at) ≡ round = omega arith in
          let turned : steps + round ≡ round + steps = omega arith in (
            count - met_at new at,
            few,
            ap (λ (n : ℕ). above n (above steps at)) one_more ∙ sym (above_sum steps round at) ∙ ap (λ (n : ℕ). above n at) turned ∙ above_sum round steps at ∙ ap (above steps) comes_back,
          )

      -- one on the walk from where it comes back
      reached : (one : ℕ) → met_at new at ≤ met_at new one → above (met_at new one - met_at new at) at ≡ one
      reached one e =
          let sum : met_at new one - (first + 1) ≡ (met_at new at - (first + 1)) + (met_at new one - met_at new at) = omega (arith, e, l) in
          sym (ap (above (met_at new one - met_at new at)) (w.walked at l)) ∙ sym (above_sum (met_at new at - (first + 1)) (met_at new one - met_at new at) from)
          ∙ ap (λ (n : ℕ). above n from) (sym sum) ∙ w.walked one (omega (arith, e, l))

      module _ (marked : List Bool) (m : AreMarked parents at round loops marked) where
        never : (one : ℕ) → get_or loops one false ≡ false → ((steps : ℕ) → steps < round → above steps at ≡ one → ⊥) → get_or marked one false ≡ false
        never one unset not_there = false_from_ne_true (get_or marked one false) (λ e. elim (m.only one e) [
          | inl was ↦ false≢true (sym unset ∙ was)
          | inr there ↦ not_there there.0 there.1 there.2
        ])

        exact_marked : (one : ℕ) → 0 < met_at new one → Decides (get_or marked one false) (IsOwnAncestor parents one)
        exact_marked one met = elim (cases_lt first (met_at new one)) [
          | inr before ↦ let e = w.kept one before in let was = d.exact one (omega (arith, e, met)) in (
            λ yes. elim (m.only one yes) [
              | inl set ↦ was.0 set
              | inr there ↦ let k = on_round there.0 there.1 in let s : met_at new (above there.0 at) ≡ met_at new one = ap (met_at new) there.2 in absurd (omega (arith, k, s, before, l))
            ],
            λ loop. m.kept one (was.1 loop),
          )
          | inl after ↦ elim (cases_lt (met_at new one) (met_at new at)) [
            | inl sooner ↦
                let unset = never one (d.unset one (w.fresh one after)) (λ steps k e. let s : met_at new (above steps at) ≡ met_at new one = ap (met_at new) e in let r = on_round steps k in omega (arith, r, s, sooner)) in
                (λ e. absurd (false≢true (sym unset ∙ e)), λ loop. absurd (straight one after (inr (inr sooner)) loop))
            | inr later ↦
                let c = w.counted one in
                let ca = w.counted at in
                let k : met_at new one - met_at new at < round = omega (arith, c, ca, later) in
                let is = reached one later in
                let loop : IsOwnAncestor parents one = subst (IsOwnAncestor parents) is (loops_round (met_at new one - met_at new at) k) in
                let yes : get_or marked one false ≡ true = subst (λ (other : ℕ). get_or marked other false ≡ true) is (m.set (met_at new one - met_at new at) k) in
                (λ e. loop, λ e. yes)
          ]
        ]

        -- a walk that comes back to itself
        pub decided_round : AreDecided parents new marked count
        decided_round = record {
          orders = w.orders;
          flags = m.flags ∙ d.flags;
          room = w.room;
          counted = w.counted;
          closed = closed_after (inl (omega (arith, l)));
          exact = exact_marked;
          unset = λ one none. never one (d.unset one (sym (w.kept one (omega (arith, none))) ∙ none)) (λ steps k e. let s : met_at new (above steps at) ≡ met_at new one = ap (met_at new) e in let r = on_round steps k in omega (arith, r, s, none, l));
        }

  -- room is left where one isn't met
  pub room_left : (from first : ℕ) (old new : List ℕ) (count at : ℕ) → IsWalked parents from first old new count at → at < length parents → met_at new at ≡ 0 → count < length parents
  room_left from first old new count at w inside unmet_at = let room = (walked_more from first old new count at w inside unmet_at).room in omega (arith, room)

  -- one mark more
  pub marked_none : (from : ℕ) (loops : List Bool) → AreMarked parents from 0 loops loops
  marked_none from loops = record { flags = refl; set = λ steps l. absurd (omega (arith, l)); only = λ one e. inl e; kept = λ one e. e }

  pub marked_more : (from count at : ℕ) (old new : List Bool) → AreMarked parents from count old new → above count from ≡ at → at < length new → AreMarked parents from (count + 1) old (set new at true)
  marked_more from count at old new m here inside = record {
    flags = length-set new at true ∙ m.flags;
    set = λ steps l. elim (cases_eq (above steps from) at) [
      | inl e ↦ ap (λ (one : ℕ). get_or (set new at true) one false) e ∙ get_or-set_same new at true false inside
      | inr n ↦ elim (cases_eq steps count) [
        | inl e ↦ absurd (n (ap (λ (steps : ℕ). above steps from) e ∙ here))
        | inr before ↦ get_or-set_other new at (above steps from) true false n ∙ m.set steps (omega (arith, l, before))
      ]
    ];
    only = λ one yes. elim (cases_eq one at) [
      | inl e ↦ inr (count, omega arith, here ∙ sym e)
      | inr n ↦ elim (m.only one (sym (get_or-set_other new at one true false n) ∙ yes)) [
        | inl was ↦ inl was
        | inr there ↦ let l = there.1 in inr (there.0, omega (arith, l), there.2)
      ]
    ];
    kept = λ one yes. elim (cases_eq one at) [
      | inl e ↦ ap (λ (one : ℕ). get_or (set new at true) one false) e ∙ get_or-set_same new at true false inside
      | inr n ↦ get_or-set_other new at one true false n ∙ m.kept one yes
    ];
  }
