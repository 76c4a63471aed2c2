-- The characters of a tree that is spelled.
use Rattle.std.proofs.Common.{◌≡◌, ℕ, nat_lt, Bool, true, false, cond, List, [], ◌∷◌, ◌++◌, map, length, refl, sym, ap, subst, chars, bytes_eq, Some, None}
use Rattle.std.specs.List.{AllByRecursion as Each}
use Rattle.markup_nodes.specs.declared.words.Attr.{Attr}
use Rattle.markup_nodes.specs.declared.tree.Elem.{Elem}
use Rattle.markup_nodes.specs.declared.tree.Tree.{Tree}
use Rattle.markup_tags.specs.declared.tags.Tag.{Tag}
use Rattle.markup_tree.specs.declared.part.Part.{Part}
use Rattle.markup_tree.specs.declared.part.Part.TheVariants.{Inside}
use Rattle.markup_tree.specs.Pieces.{Saying, Silent, Begins, Ends, Holds, Declares}
use Rattle.markup_tree.specs.Documents.{Event, Opens, Closes, Stands, Spot, place_of, part_within, behind_tag, behind_end, behind, start_of, Leads, IsSpelling, Spells}
use Rattle.doc_model.specs.Chars.{IsLegal}
use Rattle.load_model.specs.Names.{resolved}
use Rattle.legal_trees.specs.Legal.{IsLegalTree}
use Rattle.legal_trees.proofs.Chars.{some_same, none_some}
use Rattle.legal_trees.proofs.Constructs.{AreLegalAttrs, IsLegalSaying, construct_legal}
use Rattle.legal_trees.proofs.Lists.{each_append, each_whole}
use Rattle.legal_trees.proofs.Trees.{values, told, told_append, told_resolved}

-- events that tell legal characters
abbrev AreLegalEvents : List Event → Type 0
AreLegalEvents events = Each IsLegal (told events)

told_stands : (cs : List ℕ) → told (map Stands cs) ≡ cs
told_stands [] = refl
told_stands (c ∷ cs) = ap (λ (more : List ℕ). c ∷ more) (told_stands cs)

more_legal : (events more : List Event) → AreLegalEvents events → AreLegalEvents more → AreLegalEvents (events ++ more)
more_legal events more one other = subst (Each IsLegal) (sym (told_append events more)) (each_append IsLegal (told events) (told more) one other)

opening_legal : (place : ℕ) (name : List ℕ) (attrs : List Attr) (events : List Event) → AreLegalAttrs attrs → AreLegalEvents events → AreLegalEvents (Opens place name attrs ∷ events)
opening_legal place name attrs events one other = each_append IsLegal (values attrs) (told events) (each_whole IsLegal (λ (attr : Attr). attr.value) attrs one) other

-- a spot behind legal events
abbrev IsLegalSpot : Spot → Type 0
IsLegalSpot spot = AreLegalEvents spot.events

spot_to : (one next : Spot) → IsLegalSpot one → Some one ≡ Some next → IsLegalSpot next
spot_to one next is e = subst IsLegalSpot (some_same e) is

tag_to : (place : ℕ) (rest : List ℕ) (spot next : Spot) (tag : Tag) → IsLegalSpot spot → AreLegalAttrs tag.attrs → Some (behind_tag place spot tag rest) ≡ Some next → IsLegalSpot next
tag_to place rest spot next tag is legal = by_end tag.closed where
  closed : Spot
  closed = record { part = part_within spot.open_names; rest = rest; open_names = spot.open_names; events = spot.events ++ Opens place tag.name tag.attrs ∷ Closes ∷ [] }

  holding : Spot
  holding = record { part = Inside; rest = rest; open_names = tag.name ∷ spot.open_names; events = spot.events ++ Opens place tag.name tag.attrs ∷ [] }

  by_end : (b : Bool) → Some (cond b closed holding) ≡ Some next → IsLegalSpot next
  by_end true e = spot_to closed next (more_legal spot.events (Opens place tag.name tag.attrs ∷ Closes ∷ []) is (opening_legal place tag.name tag.attrs (Closes ∷ []) legal tt)) e
  by_end false e = spot_to holding next (more_legal spot.events (Opens place tag.name tag.attrs ∷ []) is (opening_legal place tag.name tag.attrs [] legal tt)) e

end_to : (rest : List ℕ) (next : Spot) (part : Part) (before : List ℕ) (names : List (List ℕ)) (events : List Event) (name : List ℕ) → AreLegalEvents events
    → behind_end (record { part = part; rest = before; open_names = names; events = events }) name rest ≡ Some next → IsLegalSpot next
end_to rest next part before [] events name is e = absurd (none_some e)
end_to rest next part before (last ∷ names) events name is e = by_name (bytes_eq last name) e where
  ended : Spot
  ended = record { part = part_within names; rest = rest; open_names = names; events = events ++ Closes ∷ [] }

  by_name : (b : Bool) → cond b (Some ended) None ≡ Some next → IsLegalSpot next
  by_name true e = spot_to ended next (more_legal events (Closes ∷ []) is tt) e
  by_name false e = absurd (none_some e)

-- a construct that says legal characters leads to such a spot
says_to : (place : ℕ) (rest : List ℕ) (spot next : Spot) (saying : Saying) → IsLegalSpot spot → IsLegalSaying saying → behind place spot saying rest ≡ Some next → IsLegalSpot next
says_to place rest spot next Silent is legal e = subst IsLegalSpot (some_same e) is
says_to place rest spot next (Begins tag) is legal e = by_room (nat_lt (length spot.open_names) 200) e where
  by_room : (b : Bool) → cond b (Some (behind_tag place spot tag rest)) None ≡ Some next → IsLegalSpot next
  by_room true e = tag_to place rest spot next tag is legal e
  by_room false e = absurd (none_some e)
says_to place rest spot next (Ends name) is legal e = end_to rest next spot.part spot.rest spot.open_names spot.events name is e
says_to place rest spot next (Holds cs) is legal e =
    spot_to (record { part = spot.part; rest = rest; open_names = spot.open_names; events = spot.events ++ map Stands cs }) next
    (more_legal spot.events (map Stands cs) is (subst (Each IsLegal) (sym (told_stands cs)) legal)) e
says_to place rest spot next Declares is legal e = absurd (none_some e)

module _ (whole : List ℕ) where
  leads_to : (spot : Spot) (between : List Spot) (last : Spot) → Leads whole spot between last → IsLegalSpot spot → IsLegalSpot last
  leads_to spot [] last l is = subst IsLegalSpot l is
  leads_to spot (next ∷ more) last l is =
      leads_to next more last l.1 (says_to (place_of whole spot.rest) l.0.1 spot next l.0.0 is (construct_legal spot.part spot.rest l.0.0 l.0.1 l.0.2) l.0.3)

spelling_legal : (whole : List ℕ) (root : Elem) → IsSpelling whole root → IsLegalTree (resolved root)
spelling_legal whole root s =
    subst (Each IsLegal) (sym (told_resolved root []))
    (subst AreLegalEvents s.events (leads_to whole (start_of whole) s.reached.0 s.spot s.reached.1 tt))

pub spelled_legal : (bytes : List ℕ) (tree : Tree) → Spells bytes tree → IsLegalTree (resolved tree.root)
spelled_legal bytes tree s = spelling_legal (chars bytes) tree.root s.1
