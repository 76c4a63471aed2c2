-- A run of steps goes on by one.
use Rattle.std.proofs.Common.{◌≡◌, ℕ, ◌+◌, ◌<◌, List, [], ◌∷◌, ◌++◌, length, get_or, take, Result, sym, ◌∙◌, ap, subst, refl}
use Rattle.std.proofs.lemmas.List.{take_more}
use Rattle.undo_groups.specs.declared.playback.Step.{Step}
use Rattle.undo_groups.specs.declared.playback.Reply.{Reply}
use Rattle.undo_groups.specs.Meaning.{Meaning}
use Rattle.undo_groups.specs.Replay.{Scene, Takes, Plays}

module _ {S O P W V : Type 0} (expansion : S → O → Result (List P) W) (after : S → P → S) (value : S → V) (m : Meaning V P) where
  pub Plays-more : (steps : List (Step O)) (replies : List (Reply W)) (old mid new : Scene S P) (step : Step O) (reply : Reply W)
      → Plays expansion after value m steps replies old mid → Takes expansion after value m step reply mid new
      → Plays expansion after value m (steps ++ step ∷ []) (replies ++ reply ∷ []) old new
  Plays-more [] [] old mid new step reply plays takes = (new, subst (λ s. Takes expansion after value m step reply s new) plays takes, refl)
  Plays-more (first ∷ steps) (answer ∷ replies) old mid new step reply plays takes =
      (plays.0, plays.1, Plays-more steps replies plays.0 mid new step reply plays.2 takes)
  Plays-more [] (answer ∷ replies) old mid new step reply plays takes = absurd plays
  Plays-more (first ∷ steps) [] old mid new step reply plays takes = absurd plays

  -- the same, where the steps so far are the first i
  pub Plays-on : (steps : List (Step O)) (i : ℕ) (replies replies2 : List (Reply W)) (old mid new : Scene S P) (step : Step O) (reply : Reply W)
      → i < length steps → step ≡ get_or steps i step → replies2 ≡ replies ++ reply ∷ []
      → Plays expansion after value m (take i steps) replies old mid → Takes expansion after value m step reply mid new
      → Plays expansion after value m (take (i + 1) steps) replies2 old new
  Plays-on steps i replies replies2 old mid new step reply below is replies_are plays takes =
      let more = take_more steps i step below ∙ ap (λ s. take i steps ++ s ∷ []) (sym is) in
      subst (λ xs. Plays expansion after value m xs replies2 old new) (sym more)
      (subst (λ rs. Plays expansion after value m (take i steps ++ step ∷ []) rs old new) (sym replies_are)
      (Plays-more (take i steps) replies old mid new step reply plays takes))
