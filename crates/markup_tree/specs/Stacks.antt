-- What the reader keeps of open elements, and its answers.
use Rattle.std.specs.Prelude.{◌≡◌, ℕ, List, [], ◌∷◌, ◌++◌, map, reverse}
use Rattle.std.specs.List.{flat_map}
use Rattle.markup_nodes.specs.declared.tree.Elem.{Elem, out-Elem}
use Rattle.markup_nodes.specs.Node.{Node, Element, Char}
use Rattle.markup_tags.specs.declared.tags.Tag.{Tag}
use Rattle.markup_tree.specs.declared.part.Part.TheVariants.{Inside, After}
use Rattle.markup_parts.specs.declared.stop.Stop.TheVariants.{Broken, Cut, Refused}
use Rattle.markup_tags.specs.declared.fault.Fault.{Fault}
use Rattle.markup_tags.specs.declared.fault.Fault.TheVariants as unread
use Rattle.markup_tree.specs.declared.reader.OffenceKind.TheVariants.{Form}
use Rattle.markup_tree.specs.declared.reader.ReadFault.{ReadFault}
use Rattle.markup_tree.specs.declared.reader.ReadFault.TheVariants as fault
use Rattle.markup_parts.specs.Outcomes.{IsRead}
use Rattle.markup_tree.specs.Pieces.{Begins, IsConstruct}
use Rattle.markup_tree.specs.Documents.{Event, Opens, Stands, events_of, Spot, place_of, Reaches, IsFirstOffence}

-- the events of a node
abbrev pub held_events : Node Elem → List Event
held_events (Element elem) = events_of elem
held_events (Char c) = Stands c ∷ []

-- the events of an open element so far
abbrev pub begun : Elem → List Event
begun elem = Opens (out-Elem elem).place (out-Elem elem).name (out-Elem elem).attrs ∷ flat_map held_events (out-Elem elem).nodes

-- the name of an element
abbrev pub name_of : Elem → List ℕ
name_of elem = (out-Elem elem).name

-- the spot at a rest with these open elements: those below, the outermost first, and the last one
abbrev pub spot_in : List Elem → Elem → List ℕ → Spot
spot_in below top rest = record {
  part = Inside;
  rest = rest;
  open_names = name_of top ∷ reverse (map name_of below);
  events = flat_map begun below ++ begun top;
}

-- the spot at a rest behind a root
abbrev pub spot_after : Elem → List ℕ → Spot
spot_after root rest = record { part = After; rest = rest; open_names = []; events = events_of root }

-- a spot before the root, at which its tag is read
pub record IsAtRoot (whole : List ℕ) (tag : Tag) (place : ℕ) (rest : List ℕ) : Type 0 where
  pub spot : Spot
  pub reached : Reaches whole spot
  pub no_names : spot.open_names ≡ []
  pub no_events : spot.events ≡ []
  pub read : IsRead (IsConstruct spot.part) spot.rest (Begins tag) rest
  pub place_is : place ≡ place_of whole spot.rest

-- the fault of a construct that isn't read at a place of a text of this length
abbrev pub fault_of : Fault → ℕ → ℕ → ReadFault
fault_of (unread.Stopped Broken) place end = fault.Offence (record { kind = Form; place = place })
fault_of (unread.Stopped Refused) place end = fault.Offence (record { kind = Form; place = place })
fault_of (unread.Stopped Cut) place end = fault.Offence (record { kind = Form; place = end })
fault_of unread.NoMemory place end = fault.NoMemory

-- a fault is the first offence of a text, or want of memory
abbrev pub IsFaultOf : List ℕ → ReadFault → Type 0
IsFaultOf whole (fault.Offence offence) = IsFirstOffence whole offence
IsFaultOf whole fault.NoMemory = Unit {0}

-- an element is what a tag at a place begins, with nothing in it
pub record IsHeading (tag : Tag) (place : ℕ) (elem : Elem) : Type 0 where
  pub place_is : (out-Elem elem).place ≡ place
  pub name_is : (out-Elem elem).name ≡ tag.name
  pub attrs_is : (out-Elem elem).attrs ≡ tag.attrs
  pub nodes_is : (out-Elem elem).nodes ≡ []
