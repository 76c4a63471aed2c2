-- Runs as a list of elements and characters.
use Rattle.std.proofs.Common.{◌≡◌, ◌<◌, ℕ, suc, zero, List, [], ◌∷◌, ◌++◌, length, map, refl, ap, sym, ◌∙◌, append_assoc, slice_get, slice_set, Some, Result, Ok, Err, OnOk, arith}
use Rattle.std.proofs.lemmas.List.{append-nil, map-append}
use Rattle.std.proofs.lemmas.Grind.{flat_map-append}
use Rattle.std.specs.List.{flat_map, slice_index_or}
use Rattle.markup_nodes.specs.Node.{Node, Element, Char}
use Rattle.markup_nodes.specs.Nodes.{char_nodes, turn_nodes, nodes_of, leading, elems, turns_of}
use Rattle.markup_nodes.specs.declared.nodes.Turn.{Turn}

module _ {X : Type 0} where
  -- the runs and elements of the nodes that they make
  pub leading_of : (first : List ℕ) (turns : List (Turn X)) → leading (nodes_of first turns) ≡ first
  leading_of [] [] = refl
  leading_of [] (t ∷ ts) = refl
  leading_of (c ∷ cs) turns = ap (λ (t : List ℕ). c ∷ t) (leading_of cs turns)

  pub turns_back : (first : List ℕ) (turns : List (Turn X)) → turns_of (nodes_of first turns) ≡ turns
  turns_back [] [] = refl
  turns_back [] (t ∷ ts) = λ i. record { elem = t.elem; after = leading_of t.after ts i } ∷ turns_back t.after ts i
  turns_back (c ∷ cs) turns = turns_back cs turns

  pub elems_back : (first : List ℕ) (turns : List (Turn X)) → elems (nodes_of first turns) ≡ map (λ (t : Turn X). t.elem) turns
  elems_back [] [] = refl
  elems_back [] (t ∷ ts) = ap (λ (xs : List X). t.elem ∷ xs) (elems_back t.after ts)
  elems_back (c ∷ cs) turns = elems_back cs turns

  -- the elements of turns, by number
  pub elem_count : (turns : List (Turn X)) → length (map (λ (t : Turn X). t.elem) turns) ≡ length turns
  elem_count [] = refl
  elem_count (t ∷ ts) = ap suc (elem_count ts)

  pub elem_get : (turns : List (Turn X)) (at : ℕ) (turn : Turn X) → slice_get turns at ≡ Some turn → slice_get (map (λ (t : Turn X). t.elem) turns) at ≡ Some turn.elem
  elem_get [] at turn e = absurd (cc)
  elem_get (t ∷ ts) zero turn e = let same : t ≡ turn = cc in ap (λ (u : Turn X). Some u.elem) same
  elem_get (t ∷ ts) (suc at) turn e = elem_get ts at turn e

  -- characters behind the last turn
  abbrev with_run : Turn X → List ℕ → Turn X
  with_run t run = record { elem = t.elem; after = run }

  run_behind : (t : Turn X) (cs : List ℕ) (run : List ℕ) → run ≡ t.after ++ cs → turn_nodes (with_run t run) ≡ turn_nodes t ++ char_nodes cs
  run_behind t cs run e = ap (λ (r : List ℕ). Element t.elem ∷ char_nodes r) e ∙ ap (λ (ns : List (Node X)). Element t.elem ∷ ns) (map-append Char t.after cs)

  runs_behind : (turns : List (Turn X)) (at : ℕ) (t : Turn X) (cs run : List ℕ) → length turns ≡ suc at → t ≡ slice_index_or turns at t → run ≡ t.after ++ cs
      → flat_map turn_nodes (slice_set turns at (with_run t run)) ≡ flat_map turn_nodes turns ++ char_nodes cs
  runs_behind [] at t cs run l is e = absurd (omega (arith, l))
  runs_behind (u ∷ []) zero t cs run l is e =
      append-nil (turn_nodes (with_run t run)) ∙ (run_behind t cs run e ∙ (ap (λ (v : Turn X). turn_nodes v ++ char_nodes cs) is ∙ ap (λ (ns : List (Node X)). ns ++ char_nodes cs) (sym (append-nil (turn_nodes u)))))
  runs_behind (u ∷ v ∷ us) zero t cs run l is e = absurd (omega (arith, l))
  runs_behind (u ∷ us) (suc at) t cs run l is e =
      ap (λ (ns : List (Node X)). turn_nodes u ++ ns) (runs_behind us at t cs run (omega (arith, l)) is e) ∙ sym (append_assoc (turn_nodes u) (flat_map turn_nodes us) (char_nodes cs))

  abbrev Added : {E : Type 0} → Result (Unit {0}) E → List (Node X) → List (Node X) → List ℕ → Type 0
  Added result new old cs = OnOk result (new ≡ old ++ char_nodes cs)

  -- characters behind the first run, where no turn is behind it
  pub first_added : {E : Type 0} (result : Result (Unit {0}) E) (first new : List ℕ) (turns : List (Turn X)) (cs : List ℕ) {old : List (Node X)} → turns ≡ [] → nodes_of first turns ≡ old
      → OnOk result (new ≡ first ++ cs) → Added result (nodes_of new turns) old cs
  first_added (Ok unit) first new turns cs {old} none is e =
      ap (λ (ts : List (Turn X)). nodes_of new ts) none
      ∙ (append-nil (char_nodes new) ∙ (ap char_nodes e ∙ (map-append Char first cs
      ∙ ap (λ (ns : List (Node X)). ns ++ char_nodes cs) (sym (append-nil (char_nodes first)) ∙ (ap (λ (ts : List (Turn X)). nodes_of first ts) (sym none) ∙ is)))))
  first_added (Err why) first new turns cs {old} none is e = tt

  -- characters behind the last turn's run
  pub last_added : {E : Type 0} (result : Result (Unit {0}) E) (first run : List ℕ) (turns : List (Turn X)) (at : ℕ) (t : Turn X) (cs : List ℕ) {old : List (Node X)} → length turns ≡ suc at
      → t ≡ slice_index_or turns at t → nodes_of first turns ≡ old → OnOk result (run ≡ t.after ++ cs) → Added result (nodes_of first (slice_set turns at (with_run t run))) old cs
  last_added (Ok unit) first run turns at t cs {old} l is same e =
      ap (λ (ns : List (Node X)). char_nodes first ++ ns) (runs_behind turns at t cs run l is e)
      ∙ (sym (append_assoc (char_nodes first) (flat_map turn_nodes turns) (char_nodes cs)) ∙ ap (λ (ns : List (Node X)). ns ++ char_nodes cs) same)
  last_added (Err why) first run turns at t cs {old} l is same e = tt

  -- one more element
  pub elem_added : (first : List ℕ) (turns : List (Turn X)) (t : Turn X) → t.after ≡ [] → nodes_of first (turns ++ t ∷ []) ≡ nodes_of first turns ++ Element t.elem ∷ []
  elem_added first turns t none =
      ap (λ (ns : List (Node X)). char_nodes first ++ ns) (flat_map-append turn_nodes turns (t ∷ [])
      ∙ ap (λ (ns : List (Node X)). flat_map turn_nodes turns ++ ns) (ap (λ (cs : List ℕ). Element t.elem ∷ (char_nodes cs ++ [])) none))
      ∙ sym (append_assoc (char_nodes first) (flat_map turn_nodes turns) (Element t.elem ∷ []))

  -- no node
  pub nodes_none : (turns : List (Turn X)) → turns ≡ [] → nodes_of [] turns ≡ []
  nodes_none turns e = ap (λ (ts : List (Turn X)). nodes_of [] ts) e

  pub none_first : (first : List ℕ) (turns : List (Turn X)) → nodes_of first turns ≡ [] → first ≡ []
  none_first first turns e = sym (leading_of first turns) ∙ ap leading e

  pub none_turns : (first : List ℕ) (turns : List (Turn X)) → nodes_of first turns ≡ [] → turns ≡ []
  none_turns first turns e = sym (turns_back first turns) ∙ ap turns_of e

  pub first_none : (first : List ℕ) (turns : List (Turn X)) → first ≡ [] → turns ≡ [] → nodes_of first turns ≡ []
  first_none first turns e f = ap (λ (cs : List ℕ). nodes_of cs turns) e ∙ nodes_none turns f

  -- an element of turns by its number
  pub elem_index : (turns : List (Turn X)) (at : ℕ) (turn : Turn X) → at < length turns → turn ≡ slice_index_or turns at turn → slice_get turns at ≡ Some turn
  elem_index [] at turn l e = absurd (omega (arith, l))
  elem_index (t ∷ ts) zero turn l e = ap Some (sym e)
  elem_index (t ∷ ts) (suc at) turn l e = elem_index ts at turn (omega (arith, l)) e
