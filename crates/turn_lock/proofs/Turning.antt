-- The steps that take, count and free the turn, and the loads, keep the rule.
use Rattle.std.proofs.Common.{◌≡◌, ℕ, ◌+◌, ◌%◌, ◌^◌, ◌<◌, ◌≤◌, List, [], ◌∷◌, ◌++◌, length, get_or, set, eqb, All, Option, Some, refl, sym, ap, ◌∙◌, subst, arith, length-append, eq-eqb, ne_eqb, unwrap_or}
use Rattle.std.proofs.lemmas.List.Elements.{All-append}
use mathlib.Core.Logic.{dite}
use native.Mathlib.Decide.{ℕ_discrete}
use mathlib.Core.Option.{some, none}
use lib.ListN.{get_elem?}
use lib.Seq.{set-get_or}
use prog.Atomic.{either}
use Rattle.atomic_table.specs.Table.{State, Me, keeps, takes, gives, rest, put_back, stepped, Allows}
use Rattle.turn_lock.specs.declared.machine.Machine.{Ghosts}
use Rattle.turn_lock.specs.declared.machine.Entry.{Entry}
use Rattle.turn_lock.specs.declared.book.Book.{Book}
use Rattle.turn_lock.specs.declared.view.Terms.{Terms}
use Rattle.turn_lock.specs.declared.view.Known.{Known}
use Rattle.turn_lock.specs.declared.view.View.{View}
use Rattle.turn_lock.specs.declared.view.Stage.TheVariants.{Resting, Holding, Counted, Met}
use Rattle.turn_lock.specs.History.{entry, state_after, calls_of, IsLegal}
use Rattle.turn_lock.specs.Numbers.{Has, Gains}
use Rattle.turn_lock.specs.Rule.{HasTurn, AtStage, Sits, Kept}
use Rattle.turn_lock.specs.Plays.{Saw, seeing, tried, took, counted, freed, loaded, compared}
use Rattle.turn_lock.proofs.Histories.{set_there, all_one, legal_snoc, not_of, of_both}
use Rattle.turn_lock.proofs.Gaining.{gains_itself, gains_more, gains_longer}
use Rattle.turn_lock.proofs.Sitting.{seats, same_terms, own_apart, at_turn, turn_of, moves, not_resting, not_met, held_else, held_by_other}

module _ {M C R S : Type 0} (g : Ghosts M C R S) (t : Terms M C R S) where
  abbrev V : Type 0
  V = View M C R S

  abbrev B : Type 0
  B = Book M C R S g

  abbrev St : Type 0
  St = State (Option B) V

  abbrev Seat : Type 0
  Seat = Me (Option B) V

  abbrev H : Type 0
  H = List (Entry M C R S)

  abbrev Rule : St → Type 0
  Rule = Kept t

  abbrev SitsIn : (s : St) → Rule s → ℕ → V → Type 0
  SitsIn s r = Sits t r.history r.owner r.kind r.turn

  pub sees : (s : St) (r : Rule s) (k : Known M C R S) → k.seen ≡ r.history → Saw g t k
  sees s r k e = record {
    legal = subst (IsLegal g.reply g.after (g.state t.start.value)) (sym e) r.legal;
    within = (subst (λ (h : H). length h ≤ t.limit) (sym e) r.within, r.narrow.0);
  }

  in_hand : B → List (ℕ × Option B) → B
  in_hand d [] = d
  in_hand d (x ∷ xs) = unwrap_or x.1 d

  -- a seat has one book in hand
  pub one_book : (cs : List (ℕ × Option B)) (a b : B) → cs ≡ (0, Some a) ∷ [] → cs ≡ (0, Some b) ∷ [] → a ≡ b
  unfolding in_hand
  one_book cs a b is also = let both : (0, Some a) ∷ [] ≡ (0, Some b) ∷ [] = sym is ∙ also in ap (in_hand a) both

  -- a load that changes what one seat knows
  quiet : (s : St) (r : Rule s) (i id : ℕ) (v w : V) → get_elem? s.views id ≡ some v → ¬ HasTurn v.stage → SitsIn s r id w
      → Rule record { words = set s.words i (get_or s.words i 0); homes = s.homes; views = set s.views id w }
  quiet s r i id v w at idle mine = record {
    history = r.history;
    owner = r.owner;
    kind = r.kind;
    turn = r.turn;
    narrow = r.narrow;
    words = set-get_or s.words i 0 ∙ r.words;
    within = r.within;
    legal = r.legal;
    callers = r.callers;
    ungiven = r.ungiven;
    each = seats t (λ j d. (u : Terms M C R S) → d.terms ≡ Some u → SitsIn s r j d) s.views id w (λ u _. mine) (λ j d _. r.each j d);
    free = r.free;
    held = λ l. let x = r.held l in (held_by_other t r.turn s.views id v w at idle x.0, x.1);
  }

  -- the history does not change
  stays : (j : ℕ) (owner : ℕ → ℕ) (h : H) (l : Known M C R S) → Gains l h → ((n : ℕ) → Has l n → owner n ≡ j) → Gains l h
  stays j owner h l x _ = x

  module _ (slots id : ℕ) (me : Seat) (of : me.0.terms ≡ Some t) where
    sits : (s : St) (r : Rule s) → get_elem? s.views id ≡ some me.0 → SitsIn s r id me.0
    sits s r at = r.each id me.0 at t of

    hit : (s : St) (r : Rule s) (number : ℕ) → get_elem? s.views id ≡ some me.0 → number ≡ me.0.known.number → r.turn ≡ 0
        → (b : B) × Rule (stepped s 1 (number + 1) id me.1 (seeing (tried me.0 0) b.journal.items Holding) (takes 0 (Some b))) × (get_elem? s.homes 0 ≡ some (some (Some b))) × (b.journal.items ≡ r.history) × (b.start.value ≡ t.start.value)
    hit s r number at is zero_turn = let home = r.free zero_turn in let b : B = home.0 in let w : V = seeing (tried me.0 0) b.journal.items Holding in let mine = sits s r at in (
      b,
      record {
        history = r.history;
        owner = r.owner;
        kind = r.kind;
        turn = number + 1;
        narrow = r.narrow;
        words = ap (λ ws. set ws 1 (number + 1)) r.words;
        within = r.within;
        legal = r.legal;
        callers = r.callers;
        ungiven = r.ungiven;
        each = seats t (λ j d. (u : Terms M C R S) → d.terms ≡ Some u → Sits t r.history r.owner r.kind (number + 1) j d) s.views id w
            (λ u _. record {
              terms = of;
              gains = gains_itself w.known r.history home.2;
              own = mine.own;
              yet = mine.yet;
              joined = mine.joined;
              stage = (ap (λ n. n + 1) is, home.2);
            })
            (λ j d other at' u of'. let theirs = r.each j d at' u of' in
            moves t r.history r.owner r.kind r.turn j r.history r.owner r.kind (number + 1) d
            (λ has. let e : r.turn ≡ d.known.number + 1 = turn_of t r.history r.owner r.kind r.turn j d theirs has in absurd (omega arith)) (stays j r.owner r.history) (λ n e. (e, refl)) theirs);
        free = λ e. absurd (omega arith);
        held = λ _. ((id, w, set_there s.views id me.0 w at, of, tt, ap (λ n. n + 1) is), ap (λ hs. set hs 0 none) home.1);
      },
      ap (λ hs. get_elem? hs 0) home.1,
      home.2,
      home.3,
    )

    pub takes_turn : (number : ℕ) → me.0.stage ≡ Resting → number ≡ me.0.known.number → Allows Rule slots id me 1 (λ n. either (eqb n 0) (number + 1) n) (took me)
    takes_turn number rests is s r deep at fits = let n : ℕ = get_or s.words 1 0 in let read : n ≡ r.turn = ap (λ ws. get_or ws 1 0) r.words in let mine = sits s r at in dite (ℕ_discrete n 0)
        (λ none_has. let h = hit s r number at is (sym read ∙ none_has) in let b : B = h.0 in let w : V = seeing (tried me.0 0) b.journal.items Holding in (
          w,
          takes 0 (Some b),
          h.2,
          subst (λ x. Rule (stepped s 1 (either x (number + 1) n) id me.1 w (takes 0 (Some b)))) (sym (eq-eqb n 0 none_has)) h.1,
          (
            (λ _. (
              b,
              refl,
              subst (Gains me.0.known) (sym h.3) mine.gains,
              λ u of'. let same = same_terms t me.0.terms u of of' in
                  subst (λ (z : Terms M C R S). (b.start.value ≡ z.start.value) × Saw g z w.known) same (h.4, sees s r w.known h.3),
            )),
            λ some_has. absurd (some_has none_has),
          ),
        ))
        (λ some_has. let w : V = tried me.0 n in let idle = not_resting t me.0.stage rests in let x = (r.held (omega arith)).0 in let theirs = r.each x.0 x.1 x.2 t x.3 in (
          w,
          keeps,
          tt,
          subst (λ b. Rule (stepped s 1 (either b (number + 1) n) id me.1 w keeps)) (sym (ne_eqb n 0 some_has))
              (quiet s r 1 id me.0 w at idle record { terms = of; gains = mine.gains; own = mine.own; yet = mine.yet; joined = mine.joined; stage = mine.stage }),
          (
            (λ none_has. absurd (some_has none_has)),
            λ _. (refl, (λ e. let same : x.1.known.number ≡ me.0.known.number = let f = x.5 in omega arith in held_else t r.turn s.views id me.0 at idle x (sym theirs.own.0 ∙ (ap r.owner same ∙ mine.own.0))), let f = x.5 in let low = theirs.own.2 in let fit = r.narrow.1 in omega arith),
          ),
        ))

    pub counts : (b : B) (c : C) → me.0.stage ≡ Holding → length me.0.known.seen < t.limit → me.1 ≡ (0, Some b) ∷ []
        → b.journal.items ≡ me.0.known.seen ++ entry (length me.0.known.seen + 1) me.0.known.number c (g.reply (state_after g.after (g.state t.start.value) me.0.known.seen) c) ∷ []
        → Allows Rule slots id me 0 (λ n. (n + 1) % 2 ^ 64) (λ _. counted me 0)
    counts b c holds room carried grown s r deep at fits =
        let k : Known M C R S = me.0.known in let mine = sits s r at in let n : ℕ = get_or s.words 0 0 in let read : n ≡ length r.history = ap (λ ws. get_or ws 0 0) r.words in
        let stage : (r.turn ≡ k.number + 1) × (k.seen ≡ r.history) = subst (AtStage t r.history r.owner r.kind r.turn id k) holds mine.stage in
        let e : Entry M C R S = entry (length k.seen + 1) k.number c (g.reply (state_after g.after (g.state t.start.value) k.seen) c) in
        let h : H = b.journal.items in let now : h ≡ r.history ++ e ∷ [] = grown ∙ ap (λ x. x ++ e ∷ []) stage.1 in let w : V = seeing me.0 h Counted in
        let size : length h ≡ length r.history + 1 = ap length now ∙ length-append r.history (e ∷ []) in let shown : length k.seen ≡ length r.history = ap length stage.1 in let fit = r.narrow.0 in
        let one_more : (n + 1) % 18446744073709551616 ≡ length h = omega arith in
        let back : (P : H → Type 0) → P (r.history ++ e ∷ []) → P h = λ P. subst P (sym now) in
        let legal : IsLegal g.reply g.after (g.state t.start.value) h = back (IsLegal g.reply g.after (g.state t.start.value))
        (legal_snoc g.reply g.after 0 (g.state t.start.value) r.history e r.legal (omega arith) (ap (λ x. g.reply (state_after g.after (g.state t.start.value) x) c) stage.1)) in
        let new : Rule (stepped s 0 ((n + 1) % 2 ^ 64) id me.1 w keeps) = record {
          history = h;
          owner = r.owner;
          kind = r.kind;
          turn = r.turn;
          narrow = r.narrow;
          words = ap (λ ws. set ws 0 ((n + 1) % 18446744073709551616)) r.words ∙ ap (λ x. x ∷ r.turn ∷ []) one_more;
          within = omega arith;
          legal = legal;
          callers = back (All (λ (x : Entry M C R S). x.caller < t.seats)) (All-append (λ (x : Entry M C R S). x.caller < t.seats) r.history (e ∷ []) r.callers (all_one (λ (x : Entry M C R S). x.caller < t.seats) e mine.own.2));
          ungiven = λ m yet. back (λ (x : H). calls_of m x ≡ []) (of_both m r.history (e ∷ []) (r.ungiven m yet) (not_of m e (λ z. let p : 0 ≡ 1 = sym mine.own.1 ∙ (ap r.kind z ∙ yet) in absurd (omega arith))));
          each = seats t (λ j d. (u : Terms M C R S) → d.terms ≡ Some u → Sits t h r.owner r.kind r.turn j d) s.views id w
              (λ u _. record {
                terms = of;
                gains = gains_itself w.known h refl;
                own = mine.own;
                yet = mine.yet;
                joined = mine.joined;
                stage = (stage.0, refl);
              })
              (λ j d other at' u of'. let theirs = r.each j d at' u of' in
              moves t r.history r.owner r.kind r.turn j h r.owner r.kind r.turn d
              (λ has. let f : r.turn ≡ d.known.number + 1 = turn_of t r.history r.owner r.kind r.turn j d theirs has in let f' = stage.0 in let same : d.known.number ≡ k.number = omega arith in
              other (sym theirs.own.0 ∙ (ap r.owner same ∙ mine.own.0)))
              (λ l x its. back (Gains l) (gains_more l r.history (e ∷ []) x (λ m has. not_of m e (λ z. other (sym (its m has) ∙ (ap r.owner (sym z) ∙ mine.own.0))))))
              (λ m z. (z, refl)) theirs);
          free = λ z. let f = stage.0 in absurd (omega arith);
          held = λ more. ((id, w, set_there s.views id me.0 w at, of, tt, stage.0), (r.held more).1);
        } in (
          w,
          keeps,
          tt,
          new,
          λ b' carried'. let same : b ≡ b' = one_book me.1 b b' carried carried' in
              (ap (λ (z : B). (seeing me.0 z.journal.items Counted, me.1)) same, λ u of'. subst (λ (z : Terms M C R S). Saw g z w.known) (same_terms t me.0.terms u of of') record { legal = legal; within = (omega arith, fit) }),
        )

    pub frees : (b : B) → HasTurn me.0.stage → me.1 ≡ (0, Some b) ∷ [] → b.journal.items ≡ me.0.known.seen → b.start.value ≡ t.start.value → Allows Rule slots id me 1 (λ _. 0) (λ _. freed me 0)
    frees b has carried same_journal same_start s r deep at fits =
        let k : Known M C R S = me.0.known in let mine = sits s r at in let stage = at_turn t r.history r.owner r.kind r.turn id k me.0.stage has mine.stage in
        let w : V = record me.0 { stage = Resting } in let f : r.turn ≡ k.number + 1 = stage.0 in let out : s.homes ≡ none ∷ [] = (r.held (omega arith)).1 in
        let full : put_back s.homes me.1 ≡ some (Some b) ∷ [] = λ i. put_back (out i) (carried i) in (
          w,
          gives,
          tt,
          record {
            history = r.history;
            owner = r.owner;
            kind = r.kind;
            turn = 0;
            narrow = r.narrow;
            words = ap (λ ws. set ws 1 0) r.words;
            within = r.within;
            legal = r.legal;
            callers = r.callers;
            ungiven = r.ungiven;
            each = seats t (λ j d. (u : Terms M C R S) → d.terms ≡ Some u → Sits t r.history r.owner r.kind 0 j d) s.views id w
                (λ u _. record {
                  terms = of;
                  gains = mine.gains;
                  own = mine.own;
                  yet = mine.yet;
                  joined = mine.joined;
                  stage = tt;
                })
                (λ j d other at' u of'. let theirs = r.each j d at' u of' in
                moves t r.history r.owner r.kind r.turn j r.history r.owner r.kind 0 d
                (λ has'. let f : r.turn ≡ d.known.number + 1 = turn_of t r.history r.owner r.kind r.turn j d theirs has' in let f' = stage.0 in let same : d.known.number ≡ k.number = omega arith in
                other (sym theirs.own.0 ∙ (ap r.owner same ∙ mine.own.0))) (stays j r.owner r.history) (λ n e. (e, refl)) theirs);
            free = λ _. (b, full, same_journal ∙ stage.1, same_start);
            held = λ l. absurd (omega arith);
          },
          ap (λ (cs : List (ℕ × Option B)). (w, rest cs)) carried,
        )

    pub loads : me.0.stage ≡ Resting → Allows Rule slots id me 0 (λ n. n) (loaded me)
    loads rests s r deep at fits = let mine = sits s r at in let w : V = seeing me.0 r.history Resting in (
      w,
      keeps,
      tt,
      quiet s r 0 id me.0 w at (not_resting t me.0.stage rests)
          record { terms = of; gains = gains_itself w.known r.history refl; own = mine.own; yet = mine.yet; joined = mine.joined; stage = tt },
      (r.history, refl, mine.gains, ap (λ ws. get_or ws 0 0) r.words, λ u of'. subst (λ (z : Terms M C R S). Saw g z w.known) (same_terms t me.0.terms u of of') (sees s r w.known refl)),
    )

    pub compares : (a b : Known M C R S) → me.0.stage ≡ Met a b → Allows Rule slots id me 0 (λ n. n) (λ _. compared me 0)
    compares a b met s r deep at fits = let mine = sits s r at in let w : V = record me.0 { stage = Resting } in (
      w,
      keeps,
      tt,
      quiet s r 0 id me.0 w at (not_met t me.0.stage a b met) record { terms = of; gains = mine.gains; own = mine.own; yet = mine.yet; joined = mine.joined; stage = tt },
      (
        refl,
        λ x y is. let p = subst (AtStage t r.history r.owner r.kind r.turn id me.0.known) is mine.stage in let q = gains_longer x y r.history p.0.0 p.1.0 in
            subst (λ (h : H). Gains x h × Gains y h) (sym p.2) q,
        own_apart t r.history r.owner r.kind r.turn id me.0 mine,
      ),
    )

  -- the journal after an entry, in the words of the seat that makes it
  pub grown_entry : (v : V) (b : B) (h : H) (e : Entry M C R S) (c : C) (caller : ℕ) → b.journal.items ≡ v.known.seen → b.start.value ≡ t.start.value → caller ≡ v.known.number → h ≡ b.journal.items ++ e ∷ []
      → e ≡ entry (length b.journal.items + 1) caller c (g.reply (state_after g.after (g.state b.start.value) b.journal.items) c)
      → h ≡ v.known.seen ++ entry (length v.known.seen + 1) v.known.number c (g.reply (state_after g.after (g.state t.start.value) v.known.seen) c) ∷ []
  grown_entry v b h e c caller items start mine grown is = let x : H = b.journal.items in
      grown ∙ (ap (λ (z : Entry M C R S). x ++ z ∷ []) is ∙ (λ i. items i ++ entry (length (items i) + 1) (mine i) c (g.reply (state_after g.after (g.state (start i)) (items i)) c) ∷ []))
