-- Making, splitting, joining and closing keep the rule.
use Rattle.std.proofs.Common.{◌≡◌, ◌≢◌, ℕ, zero, suc, ◌^◌, ◌<◌, ◌≤◌, List, [], ◌∷◌, ◌++◌, length, set, eqb, cond, All, Contains, Option, Some, None, refl, sym, ap, ◌∙◌, subst, arith, append-nil, inl, inr, ⊎_elim, length-set, eq-eqb, ne_eqb}
use Rattle.std.proofs.lemmas.List.Elements.{Contains-append_cases}
use mathlib.Core.Logic.{dite}
use native.Mathlib.Decide.{ℕ_discrete}
use mathlib.Core.Option.{some, some-ne-none, some-injective}
use lib.ListN.{get_elem?}
use Rattle.atomic_table.specs.Table.{State, Splits, Joins, opening, Final, Seen}
use Rattle.atomic_table.proofs.Lists.{set_else, at_longer}
use Rattle.turn_lock.specs.declared.machine.Machine.{Ghosts}
use Rattle.turn_lock.specs.declared.machine.Entry.{Entry}
use Rattle.turn_lock.specs.declared.book.Book.{Book}
use Rattle.turn_lock.specs.declared.view.Terms.{Terms}
use Rattle.turn_lock.specs.declared.view.Known.{Known}
use Rattle.turn_lock.specs.declared.view.View.{View}
use Rattle.turn_lock.specs.declared.view.Stage.TheVariants.{Resting}
use Rattle.turn_lock.specs.History.{calls_of, IsLegal}
use Rattle.turn_lock.specs.Numbers.{Has, numbers_of}
use Rattle.turn_lock.specs.Rule.{AtStage, Sits, Kept, first_view, spent_view, giving_view, given_view, joined_view}
use Rattle.turn_lock.proofs.Histories.{at_end}
use Rattle.turn_lock.proofs.Gaining.{not_in_empty, in_numbers, gains_itself, gains_both}
use Rattle.turn_lock.proofs.Sitting.{seats, owns, below, renames, not_resting, held_else}

-- f, with y at the place k
put : (ℕ → ℕ) → ℕ → ℕ → ℕ → ℕ
put f k y n = cond (eqb n k) y (f n)

put_here : (f : ℕ → ℕ) (k y n : ℕ) → n ≡ k → put f k y n ≡ y
unfolding put
put_here f k y n e = ap (λ b. cond b y (f n)) (eq-eqb n k e)

put_else : (f : ℕ → ℕ) (k y n : ℕ) → n ≢ k → put f k y n ≡ f n
unfolding put
put_else f k y n e = ap (λ b. cond b y (f n)) (ne_eqb n k e)

-- f, with y at the numbers of an owner
hand : (ℕ → ℕ) → (ℕ → ℕ) → ℕ → ℕ → ℕ → ℕ
hand owner f k y n = cond (eqb (owner n) k) y (f n)

hand_here : (owner f : ℕ → ℕ) (k y n : ℕ) → owner n ≡ k → hand owner f k y n ≡ y
unfolding hand
hand_here owner f k y n e = ap (λ b. cond b y (f n)) (eq-eqb (owner n) k e)

hand_else : (owner f : ℕ → ℕ) (k y n : ℕ) → owner n ≢ k → hand owner f k y n ≡ f n
unfolding hand
hand_else owner f k y n e = ap (λ b. cond b y (f n)) (ne_eqb (owner n) k e)

module _ {M C R S : Type 0} (g : Ghosts M C R S) (t : Terms M C R S) where
  abbrev V : Type 0
  V = View M C R S

  abbrev B : Type 0
  B = Book M C R S g

  abbrev St : Type 0
  St = State (Option B) V

  abbrev H : Type 0
  H = List (Entry M C R S)

  abbrev Rule : St → Type 0
  Rule = Kept t

  beyond : {A : Type 0} (a b : A) (j : ℕ) → get_elem? (a ∷ []) j ≡ some b → (j ≡ 0) × (a ≡ b)
  beyond a b zero e = (refl, some-injective a b e)
  beyond a b (suc j) e = absurd (some-ne-none b (sym e))

  -- a lock at the start
  pub opens : (b : B) → 0 < t.seats → t.limit < 2 ^ 32 → t.seats < 2 ^ 32 → b.journal.items ≡ [] → b.start.value ≡ t.start.value → Rule (opening (0 ∷ 0 ∷ []) (Some b ∷ []) (first_view t))
  opens b some_seat narrow few empty start = record {
    history = [];
    owner = λ _. 0;
    kind = put (λ _. 1) 0 0;
    turn = 0;
    narrow = (narrow, few);
    words = refl;
    within = omega arith;
    legal = tt;
    callers = λ k d l. absurd (omega arith);
    ungiven = λ _ _. refl;
    each = λ j d at u of. let it = beyond (first_view t) d j at in subst (λ (z : V). Sits t [] (λ _. 0) (put (λ _. 1) 0 0) 0 j z) it.1 record {
      terms = refl;
      gains = gains_itself (first_view t).known [] refl;
      own = (sym it.0, put_here (λ _. 1) 0 0 0 refl, some_seat);
      yet = λ n u. let low = u.0 in let high = u.1 in (sym it.0, put_else (λ _. 1) 0 0 n (λ e. omega arith), omega arith);
      joined = λ n c. absurd (not_in_empty n c);
      stage = tt;
    };
    free = λ _. (b, refl, empty, start);
    held = λ l. absurd (omega arith);
  }

  pub splits : (id : ℕ) (v : V) → v.terms ≡ Some t → v.stage ≡ Resting → 0 < v.known.left → Splits Rule id v (giving_view v) (given_view v)
  splits id v of rests more s r at =
      let k : Known M C R S = v.known in let n₀ : ℕ = k.left in let j₀ : ℕ = length s.views in let mine = r.each id v at t of in let last = mine.yet n₀ (more, omega arith) in
      let left : V = giving_view v in let right : V = given_view v in let owner' : ℕ → ℕ = put r.owner n₀ j₀ in let kind' : ℕ → ℕ = put r.kind n₀ 0 in
      let keeps_owner : (n : ℕ) → n ≢ n₀ → owner' n ≡ r.owner n = λ n e. put_else r.owner n₀ j₀ n e in
      let keeps_kind : (n : ℕ) → n ≢ n₀ → kind' n ≡ r.kind n = λ n e. put_else r.kind n₀ 0 n e in
      let apart : (n m : ℕ) → r.kind n ≡ m → m ≢ 1 → n ≢ n₀ = λ n m e ne z. ne (sym e ∙ (ap r.kind z ∙ last.1)) in
      let idle = not_resting t v.stage rests in record {
        history = r.history;
        owner = owner';
        kind = kind';
        turn = r.turn;
        narrow = r.narrow;
        words = r.words;
        within = r.within;
        legal = r.legal;
        callers = r.callers;
        ungiven = λ n yet. dite (ℕ_discrete n n₀) (λ e. let z : 0 ≡ 1 = sym (put_here r.kind n₀ 0 n e) ∙ yet in absurd (omega arith)) (λ e. r.ungiven n (sym (keeps_kind n e) ∙ yet));
        each = λ j d at' u of'. ⊎_elim
            (λ (here : get_elem? (set s.views id left) j ≡ some d). seats t (λ i x. (z : Terms M C R S) → x.terms ≡ Some z → Sits t r.history owner' kind' r.turn i x) s.views id left
            (λ z _. record {
              terms = of;
              gains = (mine.gains.0, mine.gains.1, λ n has. mine.gains.2 n (smaller v n has));
              own = (let ne = apart k.number 0 mine.own.1 (λ z. omega arith) in (keeps_owner k.number ne ∙ mine.own.0, keeps_kind k.number ne ∙ mine.own.1, mine.own.2));
              yet = λ n u. let low = u.0 in let high = u.1 in let x = mine.yet n (low, omega arith) in let ne : n ≢ n₀ = λ e. omega arith in (keeps_owner n ne ∙ x.0, keeps_kind n ne ∙ x.1, x.2);
              joined = λ n c. let x = mine.joined n c in let ne = apart n 2 x.1 (λ z. omega arith) in (keeps_owner n ne ∙ x.0, keeps_kind n ne ∙ x.1, x.2);
              stage = subst (AtStage t r.history owner' kind' r.turn id left.known) (sym rests) tt;
            })
            (λ i x other there z of''. renames t r.history r.owner r.kind r.turn i owner' kind' x
            (λ n e. let ne : n ≢ n₀ = λ q. other (sym e ∙ (ap r.owner q ∙ last.0)) in (keeps_owner n ne ∙ e, keeps_kind n ne)) (r.each i x there z of'')) j d here u of')
            (λ (new : (j ≡ length (set s.views id left)) × (right ≡ d)). let place : j ≡ j₀ = new.0 ∙ length-set s.views id left in subst (λ (z : V). Sits t r.history owner' kind' r.turn j z) new.1 record {
              terms = of;
              gains = (mine.gains.0, mine.gains.1, λ n has. mine.gains.2 n (given v more n has));
              own = (put_here r.owner n₀ j₀ n₀ refl ∙ sym place, put_here r.kind n₀ 0 n₀ refl, last.2);
              yet = λ n u. let low = u.0 in let high = u.1 in absurd (omega arith);
              joined = λ n c. absurd (not_in_empty n c);
              stage = tt;
            })
            (at_end (set s.views id left) right d j at');
        free = r.free;
        held = λ l. let x = (r.held l).0 in ((x.0, x.1, at_longer (set s.views id left) (right ∷ []) x.0 x.1 (set_else s.views id x.0 left (held_else t r.turn s.views id v at idle x) ∙ x.2), x.3, x.4, x.5), (r.held l).1);
      }
    where
      smaller : (v : V) (n : ℕ) → Has (giving_view v).known n → Has v.known n
      smaller v n (inl e) = inl e
      smaller v n (inr (inl u)) = let low = u.0 in let high = u.1 in inr (inl (low, omega arith))
      smaller v n (inr (inr c)) = inr (inr c)

      given : (v : V) → 0 < v.known.left → (n : ℕ) → Has (given_view v).known n → Has v.known n
      given v more n (inl e) = inr (inl (omega arith, omega arith))
      given v more n (inr (inl u)) = let low = u.0 in let high = u.1 in absurd (omega arith)
      given v more n (inr (inr c)) = absurd (not_in_empty n c)

  pub joins : (id : ℕ) (v : V) (other : ℕ) (w : V) → v.terms ≡ Some t → w.terms ≡ Some t → v.stage ≡ Resting → w.stage ≡ Resting → Joins Rule id v other w (joined_view v w) spent_view
  joins id v other w of of_other rests rests_other s r at apart there =
      let both' : V = joined_view v w in let k : Known M C R S = v.known in let l : Known M C R S = w.known in
      let at_other : get_elem? s.views other ≡ some w = sym (set_else s.views id other both' apart) ∙ there in
      let mine = r.each id v at t of in let theirs = r.each other w at_other t of_other in
      let owner' : ℕ → ℕ = hand r.owner r.owner other id in let kind' : ℕ → ℕ = hand r.owner r.kind other 2 in
      let keeps_owner : (n j : ℕ) → r.owner n ≡ j → j ≢ other → owner' n ≡ j = λ n j e ne. hand_else r.owner r.owner other id n (λ q. ne (sym e ∙ q)) ∙ e in
      let keeps_kind : (n j : ℕ) → r.owner n ≡ j → j ≢ other → kind' n ≡ r.kind n = λ n j e ne. hand_else r.owner r.kind other 2 n (λ q. ne (sym e ∙ q)) in
      let apart' : id ≢ other = λ e. apart (sym e) in
      let moved : (n : ℕ) → r.owner n ≡ other → owner' n ≡ id = λ n e. hand_here r.owner r.owner other id n e in
      let idle = not_resting t v.stage rests in let idle_other = not_resting t w.stage rests_other in record {
        history = r.history;
        owner = owner';
        kind = kind';
        turn = r.turn;
        narrow = r.narrow;
        words = r.words;
        within = r.within;
        legal = r.legal;
        callers = r.callers;
        ungiven = λ n yet. dite (ℕ_discrete (r.owner n) other) (λ e. let z : 2 ≡ 1 = sym (hand_here r.owner r.kind other 2 n e) ∙ yet in absurd (omega arith))
            (λ e. r.ungiven n (sym (hand_else r.owner r.kind other 2 n e) ∙ yet));
        each = seats t (λ i x. (z : Terms M C R S) → x.terms ≡ Some z → Sits t r.history owner' kind' r.turn i x) (set s.views id both') other spent_view
            (λ z none_is. absurd (is_none z none_is))
            (λ j d not_other at'. seats t (λ i x. i ≢ other → (z : Terms M C R S) → x.terms ≡ Some z → Sits t r.history owner' kind' r.turn i x) s.views id both'
            (λ _ z _. record {
              terms = of;
              gains = gains_both k l r.history mine.gains theirs.gains;
              own = (keeps_owner k.number id mine.own.0 apart', keeps_kind k.number id mine.own.0 apart' ∙ mine.own.1, mine.own.2);
              yet = λ n u. let x = mine.yet n u in (keeps_owner n id x.0 apart', keeps_kind n id x.0 apart' ∙ x.1, x.2);
              joined = λ n c. ⊎_elim (λ (a : Contains k.joined n). let x = mine.joined n a in (keeps_owner n id x.0 apart', keeps_kind n id x.0 apart' ∙ x.1, x.2))
                  (λ (b : Contains (numbers_of l) n). let has = in_numbers l n b in let e = owns t r.history r.owner r.kind r.turn other w theirs n has in
                  (moved n e, hand_here r.owner r.kind other 2 n e, below t r.history r.owner r.kind r.turn other w theirs n has))
                  (Contains-append_cases k.joined (numbers_of l) n c);
              stage = (
                (mine.gains, λ n has. keeps_owner n id (owns t r.history r.owner r.kind r.turn id v mine n has) apart'),
                (theirs.gains, λ n has. moved n (owns t r.history r.owner r.kind r.turn other w theirs n has)),
                refl,
              );
            })
            (λ i x _ there' not_other' z of''. renames t r.history r.owner r.kind r.turn i owner' kind' x (λ n e. (keeps_owner n i e not_other', keeps_kind n i e not_other')) (r.each i x there' z of''))
            j d at' not_other);
        free = r.free;
        held = λ more. let x = (r.held more).0 in let not_me = held_else t r.turn s.views id v at idle x in let not_them = held_else t r.turn s.views other w at_other idle_other x in
            ((x.0, x.1, set_else (set s.views id both') other x.0 spent_view not_them ∙ (set_else s.views id x.0 both' not_me ∙ x.2), x.3, x.4, x.5), (r.held more).1);
      }
    where
      is_none : (z : Terms M C R S) → None ≡ Some z → ⊥
      is_none z e = cc

  -- the entries of callers below a number, where none is by one of those numbers
  nobody_left : (seats : ℕ) (es : H) → All (λ e. e.caller < seats) es → ((n : ℕ) → n < seats → calls_of n es ≡ []) → es ≡ []
  nobody_left seats [] few none_of = refl
  nobody_left seats (e ∷ es) few none_of = let own : e ∷ calls_of e.caller es ≡ [] = sym (ap (λ b. cond b (e ∷ calls_of e.caller es) (calls_of e.caller es)) (eq-eqb e.caller e.caller refl)) ∙ none_of e.caller (few 0 e (omega arith)) in cc

  all_right : (P : Entry M C R S → Type 0) (xs ys : H) → All P (xs ++ ys) → All P ys
  all_right P [] ys h = h
  all_right P (x ∷ xs) ys h = all_right P xs ys (λ k d l. h (suc k) d (omega arith))

  -- what a seat with all numbers finds
  pub record Closes (v : V) (slots : List (Option B)) : Type 0 where
    pub book : B
    pub slot : get_elem? slots 0 ≡ some (Some book)
    pub journal : book.journal.items ≡ v.known.seen
    pub start : book.start.value ≡ t.start.value
    pub legal : IsLegal g.reply g.after (g.state t.start.value) v.known.seen
    pub within : length v.known.seen ≤ t.limit
    pub callers : All (λ e. e.caller < t.seats) v.known.seen

  pub closes : (id : ℕ) (v : V) (words : List ℕ) (slots : List (Option B)) → v.terms ≡ Some t → v.stage ≡ Resting → ((n : ℕ) → n < t.seats → Has v.known n) → Final (Seen Rule id v) words slots → Closes v slots
  closes id v words slots of rests every (s, seen, same_words, size, values) =
      let r = seen.0 in let at = seen.1 in let mine = r.each id v at t of in let idle = not_resting t v.stage rests in
      let is_free : r.turn ≡ 0 = dite (ℕ_discrete r.turn 0) (λ e. e)
      (λ e. let x = (r.held (omega arith)).0 in let theirs = r.each x.0 x.1 x.2 t x.3 in let low = theirs.own.2 in
      absurd (held_else t r.turn s.views id v at idle x (sym theirs.own.0 ∙ owns t r.history r.owner r.kind r.turn id v mine x.1.known.number (every x.1.known.number low)))) in
      let home = r.free is_free in let more = mine.gains.0 in let split : r.history ≡ v.known.seen ++ more = mine.gains.1 in
      let few : All (λ (e : Entry M C R S). e.caller < t.seats) (v.known.seen ++ more) = subst (All (λ (e : Entry M C R S). e.caller < t.seats)) split r.callers in
      let done : more ≡ [] = nobody_left t.seats more (all_right (λ (e : Entry M C R S). e.caller < t.seats) v.known.seen more few) (λ n l. mine.gains.2 n (every n l)) in
      let whole : r.history ≡ v.known.seen = split ∙ (ap (λ x. v.known.seen ++ x) done ∙ append-nil v.known.seen) in record {
        book = home.0;
        slot = values 0 (Some home.0) (ap (λ hs. get_elem? hs 0) home.1);
        journal = home.2 ∙ whole;
        start = home.3;
        legal = subst (IsLegal g.reply g.after (g.state t.start.value)) whole r.legal;
        within = subst (λ (h : H). length h ≤ t.limit) whole r.within;
        callers = subst (All (λ (e : Entry M C R S). e.caller < t.seats)) whole r.callers;
      }
