-- `Nodes` as a type that may hold the type that holds it.
use mathlib.Core.Path.{◌≡◌, refl, sym, ◌∙◌}
use mathlib.Core.List.{List, [], ◌∷◌, ◌++◌, map}
use Rattle.std.specs.List.{flat_map}
use mathlib.Core.Former.{Former, one_more, this, const, pair, or, via, list, children}
use Prim.Native.Nat.{ℕ}
use base.Stored.{gcons, gnum, code_map}
use denote.RattleType.{RattleType}
use denote.HoleLaws.{Alike}
use denote.HolePlaces.{Recodes, struct_places, laid}
use denote.Hole.Carrier.{listed}
use denote.Hole.Fix.{over}
use denote.Param.Weighed.{Weighed, w_const, w_or, w_via, w_list}
use denote.Model.Placed.{view_places, Held, held}
use Rattle.std.specs.formers.vec.Vec as vec
use Rattle.std.specs.declared.alloc.Global.{Global}
use Rattle.std.specs.contracts.alloc.Global as heap
use Rattle.std.specs.contracts.impls.GlobalAllocator.TheImpl.{ghosts}
use Rattle.markup_nodes.specs.declared.nodes.Turn.{Turn}
use Rattle.markup_nodes.specs.declared.nodes.Nodes.TheInside.{Inside}
use Rattle.markup_nodes.specs.declared.nodes.Nodes.TheView.{view, invariant}
use Rattle.markup_nodes.specs.contracts.nodes.Turn as T
use Rattle.markup_nodes.specs.contracts.nodes.Nodes as C
use Rattle.markup_nodes.specs.contracts.nodes.Nodes.TheInside as I
use Rattle.markup_nodes.specs.Node.{Node, Element, Char, node_split, node_join, join-split, split-join, node_code}
use Rattle.markup_nodes.specs.Nodes.{char_nodes, turn_nodes, elems}

-- a node holds one value or none
abbrev node : Former {0} → Former {0}
node g = via (or g (const ℕ)) (λ X. Node (g.Of X)) (λ X. node_split) (λ X. node_join) (λ X. join-split) (λ X. split-join)

abbrev pub the_former : Former {0} → Former {0}
the_former g = list (node g)

abbrev pub the_weighed : {g : Former {0}} → Weighed g → Weighed (the_former g)
the_weighed {g} w = w_list (w_via (w_or w (w_const ℕ)) (λ X. Node (g.Of X)) (λ X. node_split) (λ X. node_join) (λ X. join-split) (λ X. split-join))

pub the_empty : List (Node ⊥)
the_empty = []

abbrev pub the_items : (X : Type 0) → List (Node X) → List X
the_items X d = elems d

pub the_items_listed : (X : Type 0) (d : List (Node X)) → listed _ (children (the_former this) X d) ≡ the_items X d
the_items_listed X [] = refl
the_items_listed X (Element x ∷ d) = λ i. x ∷ the_items_listed X d i
the_items_listed X (Char c ∷ d) = the_items_listed X d

-- a turn holds one value
abbrev turn : Former {0}
turn = via (pair this (const (List ℕ))) Turn (λ X t. (t.elem, t.after)) (λ X v. record { elem = v.0; after = v.1 }) (λ X t. refl) (λ X v. refl)

abbrev fields : Former {0}
fields = via (pair (const (List ℕ)) (vec.the_former turn Global)) Inside (λ X a. (a.first, a.turns)) (λ X v. record { first = v.0; turns = v.1 }) (λ X a. refl) (λ X v. refl)

-- the nodes of mapped turns are mapped
module _ (X Y : Type 0) (h : X → Y) where
  abbrev mapped : List (Node X) → List (Node Y)
  mapped = (the_former this).map X Y h

  chars_natural : (cs : List ℕ) (left : List (Node Y)) (nodes : List (Node X)) → left ≡ mapped nodes → char_nodes cs ++ left ≡ mapped (char_nodes cs ++ nodes)
  chars_natural [] left nodes e = e
  chars_natural (c ∷ cs) left nodes e = λ i. Char c ∷ chars_natural cs left nodes e i

  turns_natural : (ts : List (Turn X)) → flat_map turn_nodes (map (turn.map X Y h) ts) ≡ mapped (flat_map turn_nodes ts)
  turns_natural [] = refl
  turns_natural (t ∷ ts) = λ i. Element (h t.elem) ∷ chars_natural t.after _ (flat_map turn_nodes ts) (turns_natural ts) i

  natural : (a : fields.Of X) → view Y (fields.map X Y h a) ≡ mapped (view X a)
  natural a = chars_natural a.first _ (flat_map turn_nodes a.turns.items) (turns_natural a.turns.items)

-- the nodes hold what the turns hold
module _ (X : Type 0) where
  chars_keep : (cs : List ℕ) (nodes : List (Node X)) → held (the_former this) X (char_nodes cs ++ nodes) ≡ held (the_former this) X nodes
  chars_keep [] nodes = refl
  chars_keep (c ∷ cs) nodes = chars_keep cs nodes

  abbrev one_held : X → Held X → Held X
  one_held x u = (one_more u.0, (x, u.1))

  turns_keep : (ts : List (Turn X)) → held (the_former this) X (flat_map turn_nodes ts) ≡ held (list turn) X ts
  turns_keep [] = refl
  turns_keep (t ∷ ts) = λ i. one_held t.elem ((chars_keep t.after (flat_map turn_nodes ts) ∙ turns_keep ts) i)

  keeps : (a : fields.Of X) → held (the_former this) X (view X a) ≡ held fields X a
  keeps a = chars_keep a.first (flat_map turn_nodes a.turns.items) ∙ turns_keep a.turns.items

module _ (R S : RattleType) (h : R.Denot → S.Denot) where
  turn_places : Alike R S h → Alike (T.the_row R) (T.the_row S) (turn.map R.Denot S.Denot h)
  turn_places a = struct_places (T.the_type R) (T.the_type S) (h, ((λ n. n), tt)) _ (λ d. refl) refl (laid R S h a, ((refl, (λ n. refl, λ n. refl)), tt))

  pub the_places : Alike R S h → Alike (C.the_row R) (C.the_row S) ((the_former this).map R.Denot S.Denot h)
  the_places a = view_places fields (the_former this) view natural keeps R.Denot S.Denot h (C.the_row R).coded (C.the_row S).coded
      (invariant R.Denot) (invariant S.Denot) (λ u p q. refl) (λ u p q. refl) (λ u e. tt) (λ u e. tt)
      (over (I.the_row R)) (over (I.the_row S))
      (struct_places (I.the_type R) (I.the_type S) ((λ n. n), (vec.mapped (turn.map R.Denot S.Denot h), tt)) _ (λ d. refl) refl
      ((refl, (λ n. refl, λ n. refl)), (laid _ _ _ (vec.the_places heap.the_row ghosts (T.the_row R) (T.the_row S) (turn.map R.Denot S.Denot h) (turn_places a)), tt)))

  node_recoded : Recodes R S h → (x : Node R.Denot) → (node_code R.coded).code x ≡ (node_code S.coded).code ((node this).map R.Denot S.Denot h x)
  node_recoded e (Element y) = λ i. gcons (gnum 0) (sym (e y) i)
  node_recoded e (Char c) = refl

  pub the_codes_placed : Recodes R S h → Recodes (C.the_row R) (C.the_row S) ((the_former this).map R.Denot S.Denot h)
  the_codes_placed e d = sym (code_map (node_code R.coded).code (node_code S.coded).code ((node this).map R.Denot S.Denot h) (node_recoded e) d)
