-- The spelling of a tree, and the first offence of a text that spells none.
use Rattle.std.specs.Prelude.{◌≡◌, ℕ, ◌-◌, ◌==◌, nat_lt, List, [], ◌∷◌, ◌++◌, map, length, chars, ◌⊎◌, if◌then◌else◌, Option, Some, None, Result, Ok, Err}
use Rattle.std.specs.List.{flat_map}
use Rattle.std.specs.Str.{bytes_eq, encode_utf8_all, IsUtf8, IsValidUpTo}
use Rattle.markup_nodes.specs.declared.words.Attr.{Attr}
use Rattle.markup_nodes.specs.declared.tree.Elem.{Elem}
use Rattle.markup_nodes.specs.declared.tree.Elem.TheOpen.{Elem-F}
use Rattle.markup_nodes.specs.declared.tree.Elem.TheFolds.{fold-Elem}
use Rattle.markup_nodes.specs.declared.tree.Tree.{Tree}
use Rattle.markup_nodes.specs.Node.{Node, Element, Char}
use Rattle.markup_tags.specs.declared.tags.Tag.{Tag}
use Rattle.markup_tree.specs.declared.part.Part.{Part}
use Rattle.markup_tree.specs.declared.part.Part.TheVariants.{Start, Before, Inside, After}
use Rattle.markup_tree.specs.declared.reader.Offence.{Offence}
use Rattle.markup_tree.specs.declared.reader.ReadFault.{ReadFault}
use Rattle.markup_tree.specs.declared.reader.ReadFault.TheVariants as fault
use Rattle.markup_tree.specs.declared.reader.OffenceKind.{OffenceKind}
use Rattle.markup_tree.specs.declared.reader.OffenceKind.TheVariants.{NotUtf8, Form, Doctype, Deep}
use Rattle.markup_parts.specs.Outcomes.{IsBroken, IsCut}
use Rattle.markup_tree.specs.Pieces.{Saying, Silent, Begins, Ends, Holds, Declares, IsConstruct}

-- what happens as a tree is read: an element opens at a place, the last open one closes, a character stands
pub data Event : Type 0 where
  Opens : (place : ℕ) (name : List ℕ) (attrs : List Attr) → Event
  Closes : Event
  Stands : (c : ℕ) → Event

abbrev pub node_events : Node (List Event) → List Event
node_events (Element events) = events
node_events (Char c) = Stands c ∷ []

abbrev pub elem_events : Elem-F (List Event) → List Event
elem_events elem = Opens elem.place elem.name elem.attrs ∷ (flat_map node_events elem.nodes ++ Closes ∷ [])

-- the events of an element: it opens, those of what it holds in their order, and it closes
abbrev pub events_of : Elem → List Event
events_of = fold-Elem (List Event) elem_events

-- a place between two constructs: the part of the document, the text from there on, the names of the open elements, the last
-- first, and the events so far
pub record Spot : Type 0 where
  pub part : Part
  pub rest : List ℕ
  pub open_names : List (List ℕ)
  pub events : List Event

-- the bytes of a text's characters
abbrev pub byte_count : List ℕ → ℕ
byte_count text = length (encode_utf8_all text)

-- the place at which the rest of a whole text begins, in bytes from 0
abbrev pub place_of : List ℕ → List ℕ → ℕ
place_of whole rest = byte_count whole - byte_count rest

-- the part behind a construct that says nothing
abbrev pub part_behind : Part → Part
part_behind Start = Before
part_behind part = part

-- the part behind the end of an element that stands in these
abbrev pub part_within : List (List ℕ) → Part
part_within [] = After
part_within (name ∷ names) = Inside

-- the spot behind a tag of an element with its place. A tag that closes its element ends it
abbrev pub behind_tag : ℕ → Spot → Tag → List ℕ → Spot
behind_tag place spot tag rest =
    if tag.closed
    then record { part = part_within spot.open_names; rest = rest; open_names = spot.open_names; events = spot.events ++ Opens place tag.name tag.attrs ∷ Closes ∷ [] }
    else record { part = Inside; rest = rest; open_names = tag.name ∷ spot.open_names; events = spot.events ++ Opens place tag.name tag.attrs ∷ [] }

-- the spot behind an end tag, which has to have the name of the last open element
abbrev pub behind_end : Spot → List ℕ → List ℕ → Option Spot
behind_end spot name rest = of_open spot.open_names where
  of_open : List (List ℕ) → Option Spot
  of_open [] = None
  of_open (last ∷ names) =
      if bytes_eq last name
      then Some (record { part = part_within names; rest = rest; open_names = names; events = spot.events ++ Closes ∷ [] })
      else None

-- the spot behind a construct that says this, or nothing where the construct is refused for it: 200 elements may be open
abbrev pub behind : ℕ → Spot → Saying → List ℕ → Option Spot
behind place spot Silent rest = Some (record spot { part = part_behind spot.part; rest = rest })
behind place spot (Begins tag) rest = if nat_lt (length spot.open_names) 200 then Some (behind_tag place spot tag rest) else None
behind place spot (Ends name) rest = behind_end spot name rest
behind place spot (Holds characters) rest = Some (record spot { rest = rest; events = spot.events ++ map Stands characters })
behind place spot Declares rest = None

-- where reading begins: a byte order mark is skipped
abbrev pub without_mark : List ℕ → List ℕ
without_mark [] = []
without_mark (c ∷ cs) = if c == 0xfeff then cs else c ∷ cs

abbrev pub start_of : List ℕ → Spot
start_of whole = record { part = Start; rest = without_mark whole; open_names = []; events = [] }

-- a construct leads from one spot of a whole text to another
abbrev pub Follows : List ℕ → Spot → Spot → Type 0
Follows whole spot next = (saying : Saying) × (rest : List ℕ) × IsConstruct spot.part spot.rest (Some saying) rest × (behind (place_of whole spot.rest) spot saying rest ≡ Some next)

-- constructs one after another lead from one spot over these to another
abbrev pub Leads : List ℕ → Spot → List Spot → Spot → Type 0
Leads whole spot [] last = spot ≡ last
Leads whole spot (next ∷ more) last = Follows whole spot next × Leads whole next more last

-- the text up to a spot is a row of constructs
abbrev pub Reaches : List ℕ → Spot → Type 0
Reaches whole spot = (between : List Spot) × Leads whole (start_of whole) between spot

-- the spelling of a tree: a text is a row of constructs up to its end, behind the root, and they have the events of the tree
pub record IsSpelling (whole : List ℕ) (root : Elem) : Type 0 where
  pub spot : Spot
  pub reached : Reaches whole spot
  pub part : spot.part ≡ After
  pub ended : spot.rest ≡ []
  pub events : spot.events ≡ events_of root

-- why a construct is refused for what it says
abbrev pub refusal : Saying → OffenceKind
refusal (Begins tag) = Deep
refusal Declares = Doctype
refusal _ = Form

-- reading stops at a spot, with an offence at it or at the end of the text
pub data Stops (whole : List ℕ) (spot : Spot) : Offence → Type 0 where
  -- no construct goes on as the text does
  broken : IsBroken (IsConstruct spot.part) spot.rest → (o : Offence) → o ≡ record { kind = Form; place = place_of whole spot.rest } → Stops whole spot o
  -- a construct refers to no legal character
  unnamed : (rest : List ℕ) → IsConstruct spot.part spot.rest None rest → (o : Offence) → o ≡ record { kind = Form; place = place_of whole spot.rest } → Stops whole spot o
  -- a construct is refused for what it says
  refused : (saying : Saying) (rest : List ℕ) → IsConstruct spot.part spot.rest (Some saying) rest → behind (place_of whole spot.rest) spot saying rest ≡ None
      → (o : Offence) → o ≡ record { kind = refusal saying; place = place_of whole spot.rest } → Stops whole spot o
  -- the text ends inside a construct, or before the root's end
  cut : IsCut (IsConstruct spot.part) spot.rest → ((spot.part ≡ After) × (spot.rest ≡ []) → ⊥)
      → (o : Offence) → o ≡ record { kind = Form; place = byte_count whole } → Stops whole spot o

-- the first offence of a text
pub record IsFirstOffence (whole : List ℕ) (offence : Offence) : Type 0 where
  pub spot : Spot
  pub reached : Reaches whole spot
  pub stops : Stops whole spot offence

-- bytes spell a tree: they are UTF-8, and their characters spell its root
abbrev pub Spells : List ℕ → Tree → Type 0
Spells bytes tree = IsUtf8 bytes × IsSpelling (chars bytes) tree.root

-- the first offence of bytes: the first that isn't UTF-8 decides, and then the characters
abbrev pub HasOffence : List ℕ → Offence → Type 0
HasOffence bytes offence =
    ((offence.kind ≡ NotUtf8) × IsValidUpTo bytes offence.place)
    ⊎ (IsUtf8 bytes × IsFirstOffence (chars bytes) offence)

-- a fault is the first offence of bytes, or want of memory
abbrev pub IsFaultIn : List ℕ → ReadFault → Type 0
IsFaultIn bytes (fault.Offence offence) = HasOffence bytes offence
IsFaultIn bytes fault.NoMemory = Unit {0}

-- an answer is this tree, or want of memory
abbrev pub IsTreeUnlessMemory : Tree → Result Tree ReadFault → Type 0
IsTreeUnlessMemory tree (Ok read) = read ≡ tree
IsTreeUnlessMemory tree (Err why) = why ≡ fault.NoMemory

-- an answer is this offence, or want of memory
abbrev pub IsOffenceUnlessMemory : Offence → Result Tree ReadFault → Type 0
IsOffenceUnlessMemory offence (Ok read) = ⊥
IsOffenceUnlessMemory offence (Err (fault.Offence told)) = told ≡ offence
IsOffenceUnlessMemory offence (Err fault.NoMemory) = Unit {0}
