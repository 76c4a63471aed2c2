-- The rule's parts under a step of one seat.
use Rattle.std.proofs.Common.{◌≡◌, ◌≢◌, ℕ, ◌+◌, ◌<◌, List, set, Option, Some, sym, ap, ◌∙◌, subst, arith, inl, inr, ⊎_elim, unwrap_or}
use mathlib.Core.Option.{some, some-injective}
use lib.ListN.{get_elem?}
use Rattle.atomic_table.proofs.Lists.{at_set, set_else}
use Rattle.turn_lock.specs.declared.machine.Entry.{Entry}
use Rattle.turn_lock.specs.declared.view.Terms.{Terms}
use Rattle.turn_lock.specs.declared.view.Known.{Known}
use Rattle.turn_lock.specs.declared.view.View.{View}
use Rattle.turn_lock.specs.declared.view.Stage.{Stage}
use Rattle.turn_lock.specs.declared.view.Stage.TheVariants.{Resting, Holding, Counted, Met}
use Rattle.turn_lock.specs.Numbers.{Has, IsApart, Gains}
use Rattle.turn_lock.specs.Rule.{HasTurn, AtStage, Sits, Held}

module _ {M C R S : Type 0} (t : Terms M C R S) where
  abbrev V : Type 0
  V = View M C R S

  abbrev Kn : Type 0
  Kn = Known M C R S

  abbrev H : Type 0
  H = List (Entry M C R S)

  -- each seat of a list of views, after a change of one
  pub seats : (P : ℕ → V → Type 0) (vs : List V) (id : ℕ) (w : V) → P id w → ((j : ℕ) (d : V) → j ≢ id → get_elem? vs j ≡ some d → P j d) → (j : ℕ) (d : V) → get_elem? (set vs id w) j ≡ some d → P j d
  seats P vs id w mine others j d e = ⊎_elim (λ (x : (j ≡ id) × (w ≡ d)). subst (λ (z : ℕ × V). P z.0 z.1) (λ i. (sym x.0 i, x.1 i)) mine)
      (λ (x : (j ≢ id) × (get_elem? vs j ≡ some d)). others j d x.0 x.1) (at_set vs id j w d e)

  pub same_terms : (o : Option (Terms M C R S)) (u : Terms M C R S) → o ≡ Some t → o ≡ Some u → t ≡ u
  same_terms o u a b = ap (λ x. unwrap_or x t) (sym a ∙ b)

  module _ (h : H) (owner kind : ℕ → ℕ) (turn j : ℕ) where
    -- the seat's numbers are its own
    pub owns : (d : V) → Sits t h owner kind turn j d → (n : ℕ) → Has d.known n → owner n ≡ j
    owns d s n (inl e) = ap owner e ∙ s.own.0
    owns d s n (inr (inl u)) = (s.yet n u).0
    owns d s n (inr (inr c)) = (s.joined n c).0

    pub below : (d : V) → Sits t h owner kind turn j d → (n : ℕ) → Has d.known n → n < t.seats
    below d s n (inl e) = subst (λ k. k < t.seats) (sym e) s.own.2
    below d s n (inr (inl u)) = (s.yet n u).2
    below d s n (inr (inr c)) = (s.joined n c).2

    -- the seat that has the turn knows the whole history
    pub at_turn : (k : Kn) (st : Stage M C R S) → HasTurn st → AtStage t h owner kind turn j k st → (turn ≡ k.number + 1) × (k.seen ≡ h)
    at_turn k Resting idle a = absurd idle
    at_turn k Holding _ a = a
    at_turn k Counted _ a = a
    at_turn k (Met a b) idle x = absurd idle

    -- its own number is none of its others
    pub own_apart : (d : V) → Sits t h owner kind turn j d → IsApart d.known d.known.number
    own_apart d s = record {
      ungiven = λ u. let p : 0 ≡ 1 = sym s.own.1 ∙ (s.yet d.known.number u).1 in absurd (omega arith);
      joined = λ c. let p : 0 ≡ 2 = sym s.own.1 ∙ (s.joined d.known.number c).1 in absurd (omega arith);
    }

    pub turn_of : (d : V) → Sits t h owner kind turn j d → HasTurn d.stage → turn ≡ d.known.number + 1
    turn_of d s has = (at_turn d.known d.stage has s.stage).0

    module _ (h' : H) (owner' kind' : ℕ → ℕ) (turn' : ℕ) where
      stage_moves : (k : Kn) (st : Stage M C R S) → ¬ HasTurn st → ((l : Kn) → Gains l h → ((n : ℕ) → Has l n → owner n ≡ j) → Gains l h') → ((n : ℕ) → owner n ≡ j → owner' n ≡ j)
          → AtStage t h owner kind turn j k st → AtStage t h' owner' kind' turn' j k st
      stage_moves k Resting idle grow same a = tt
      stage_moves k Holding idle grow same a = absurd (idle tt)
      stage_moves k Counted idle grow same a = absurd (idle tt)
      stage_moves k (Met a b) idle grow same x = (
        (grow a x.0.0 x.0.1, λ n has. same n (x.0.1 n has)),
        (grow b x.1.0 x.1.1, λ n has. same n (x.1.1 n has)),
        x.2,
      )

      -- a seat that has not the turn, where others move
      pub moves : (d : V) → ¬ HasTurn d.stage → ((l : Kn) → Gains l h → ((n : ℕ) → Has l n → owner n ≡ j) → Gains l h') → ((n : ℕ) → owner n ≡ j → (owner' n ≡ j) × (kind' n ≡ kind n))
          → Sits t h owner kind turn j d → Sits t h' owner' kind' turn' j d
      moves d idle grow same s = record {
        terms = s.terms;
        gains = grow d.known s.gains (owns d s);
        own = ((same d.known.number s.own.0).0, (same d.known.number s.own.0).1 ∙ s.own.1, s.own.2);
        yet = λ n u. let x = s.yet n u in ((same n x.0).0, (same n x.0).1 ∙ x.1, x.2);
        joined = λ n c. let x = s.joined n c in ((same n x.0).0, (same n x.0).1 ∙ x.1, x.2);
        stage = stage_moves d.known d.stage idle grow (λ n e. (same n e).0) s.stage;
      }

    -- any seat, where numbers of others go to another seat
    stage_renames : (owner' kind' : ℕ → ℕ) (k : Kn) (st : Stage M C R S) → ((n : ℕ) → owner n ≡ j → owner' n ≡ j) → AtStage t h owner kind turn j k st → AtStage t h owner' kind' turn j k st
    stage_renames owner' kind' k Resting same a = tt
    stage_renames owner' kind' k Holding same a = a
    stage_renames owner' kind' k Counted same a = a
    stage_renames owner' kind' k (Met a b) same x = ((x.0.0, λ n has. same n (x.0.1 n has)), (x.1.0, λ n has. same n (x.1.1 n has)), x.2)

    pub renames : (owner' kind' : ℕ → ℕ) (d : V) → ((n : ℕ) → owner n ≡ j → (owner' n ≡ j) × (kind' n ≡ kind n)) → Sits t h owner kind turn j d → Sits t h owner' kind' turn j d
    renames owner' kind' d same s = record {
      terms = s.terms;
      gains = s.gains;
      own = ((same d.known.number s.own.0).0, (same d.known.number s.own.0).1 ∙ s.own.1, s.own.2);
      yet = λ n u. let x = s.yet n u in ((same n x.0).0, (same n x.0).1 ∙ x.1, x.2);
      joined = λ n c. let x = s.joined n c in ((same n x.0).0, (same n x.0).1 ∙ x.1, x.2);
      stage = stage_renames owner' kind' d.known d.stage (λ n e. (same n e).0) s.stage;
    }

  pub not_resting : (st : Stage M C R S) → st ≡ Resting → ¬ HasTurn st
  not_resting st e = subst (λ z. ¬ HasTurn z) (sym e) (λ idle. idle)

  pub not_met : (st : Stage M C R S) (a b : Kn) → st ≡ Met a b → ¬ HasTurn st
  not_met st a b e = subst (λ z. ¬ HasTurn z) (sym e) (λ idle. idle)

  -- another seat than this one has the turn
  pub held_else : (turn : ℕ) (vs : List V) (id : ℕ) (v : V) → get_elem? vs id ≡ some v → ¬ HasTurn v.stage → (x : Held t turn vs) → x.0 ≢ id
  held_else turn vs id v at idle x e = idle (subst (λ (z : V). HasTurn z.stage) (some-injective x.1 v (sym x.2 ∙ (ap (get_elem? vs) e ∙ at))) x.4)

  pub held_by_other : (turn : ℕ) (vs : List V) (id : ℕ) (v w : V) → get_elem? vs id ≡ some v → ¬ HasTurn v.stage → Held t turn vs → Held t turn (set vs id w)
  held_by_other turn vs id v w at idle x = (x.0, x.1, set_else vs id x.0 w (held_else turn vs id v at idle x) ∙ x.2, x.3, x.4, x.5)
