-- What an element gives, level by level.
use Rattle.std.proofs.Common.{◌≡◌, ◌≢◌, ◌<◌, ℕ, Bool, true, false, cond, not, List, [], ◌∷◌, ◌++◌, length, map, take, refl, sym, ap, ◌∙◌, append_assoc, append-nil, arith, zero, suc, Option, Some, None, Result, Ok, Err, OnOk, slice_index_or, ◌==◌, Vec, Global}
use Rattle.std.proofs.lemmas.Bool.{false≢true}
use Rattle.std.proofs.lemmas.List.{map-append}
use Rattle.std.specs.List.{flat_map, AllByRecursion as Each}
use mathlib.Core.Former.{this}
use Rattle.markup_nodes.specs.formers.nodes.Nodes.{the_former}
use Rattle.markup_nodes.specs.declared.nodes.Turn.{Turn}
use Rattle.markup_nodes.specs.Node.{Node, Element as Inner, Char}
use Rattle.markup_nodes.specs.Nodes.{elems, turns_of}
use Rattle.load_model.specs.declared.names.Key.{Key}
use Rattle.load_model.specs.declared.names.Tag.{Tag}
use Rattle.load_model.specs.declared.names.Tag.TheVariants as tag
use Rattle.load_model.specs.declared.element.Attribute.{Attribute}
use Rattle.load_model.specs.declared.element.Element.{Element, out-Element}
use Rattle.load_model.specs.declared.element.Element.TheFolds.{fold_out-Element}
use Rattle.load_model.specs.Met.{Met, MarkKind, Section, Note, Mark, mark_met, note_met, named_at, in_note, Where, Gives, gives_of, each, in_blocks, in_list, in_content, is_dropped, first_given, reads_sections, section_met}
use Rattle.load_model.specs.Values as value
use Rattle.load_model.specs.Values.{stated}
use Rattle.load_model.specs.Left.{is_same_tag}
use Rattle.met_read.specs.declared.things.Met.{Met as Read}
use Rattle.met_read.specs.declared.walk.Here.{Here}
use Rattle.met_read.specs.declared.walk.Part.{Part}
use Rattle.met_read.specs.declared.walk.Part.TheVariants as part
use Rattle.met_read.specs.Read.{last, met_of, outlined}
use Rattle.met_read.specs.Walk.{HasMore, HasMoreAt, Stands, name_in, given, given_in, held, inside, is_passed}

-- what an element of these parts gives
abbrev gives_with : Element → List Gives → Gives
gives_with element gives = record {
  tag = (out-Element element).tag;
  blocks = in_blocks (out-Element element).tag (out-Element element).place (out-Element element).attributes gives;
  entry = in_list (out-Element element).tag gives;
  content = in_content (out-Element element).tag (out-Element element).place (out-Element element).attributes gives;
  inside = λ here. each (λ one. one.blocks) here gives;
}

elems_given : (nodes : List (Node Element)) → elems ((the_former this).map Element Gives gives_of nodes) ≡ map gives_of (elems nodes)
elems_given [] = refl
elems_given (Inner element ∷ nodes) = ap (λ (more : List Gives). gives_of element ∷ more) (elems_given nodes)
elems_given (Char c ∷ nodes) = elems_given nodes

pub gives_out : (element : Element) → gives_of element ≡ gives_with element (held element)
gives_out element = fold_out-Element Gives _ element ∙ ap (gives_with element) (elems_given (out-Element element).nodes)

-- by where it stands
pub blocks_out : (element : Element) (at : Where)
    → given_in part.Blocks element at ≡ in_blocks (out-Element element).tag (out-Element element).place (out-Element element).attributes (held element) at
blocks_out element at = ap (λ (one : Gives). one.blocks at) (gives_out element)

pub entry_out : (element : Element) (at : Where) → given_in part.Entries element at ≡ in_list (out-Element element).tag (held element) at
entry_out element at = ap (λ (one : Gives). one.entry at) (gives_out element)

pub content_out : (element : Element) (at : Where)
    → given_in part.Content element at ≡ in_content (out-Element element).tag (out-Element element).place (out-Element element).attributes (held element) at
content_out element at = ap (λ (one : Gives). one.content at) (gives_out element)

pub inside_out : (element : Element) (at : Where) → (gives_of element).inside at ≡ inside part.Blocks element at
inside_out element at = ap (λ (one : Gives). one.inside at) (gives_out element)

pub tag_out : (element : Element) → (gives_of element).tag ≡ (out-Element element).tag
tag_out element = ap (λ (one : Gives). one.tag) (gives_out element)

-- what is kept of two lists one after another
pub more_then : (first second third : List Read) (xs ys : List Met) → HasMore first second xs → HasMore second third ys → HasMore first third (xs ++ ys)
more_then first second third xs ys e f =
    f ∙ ap (λ (front : List Met). front ++ map outlined ys) e ∙ append_assoc (map met_of first) (map outlined xs) (map outlined ys)
    ∙ ap (λ (more : List Met). map met_of first ++ more) (sym (map-append outlined xs ys))

pub more_none : (all : List Read) → HasMore all all []
more_none all = sym (append-nil (map met_of all))

pub more_is : (old new : List Read) (xs ys : List Met) → xs ≡ ys → HasMore old new xs → HasMore old new ys
more_is old new xs ys e h = h ∙ ap (λ (more : List Met). map met_of old ++ map outlined more) e

-- the elements that an element holds, by their turns
elems_turns : (nodes : List (Node Element)) → elems nodes ≡ map (λ (turn : Turn Element). turn.elem) (turns_of nodes)
elems_turns [] = refl
elems_turns (Inner element ∷ nodes) = ap (λ (more : List Element). element ∷ more) (elems_turns nodes)
elems_turns (Char c ∷ nodes) = elems_turns nodes

each_turn : (which : Part) (at : Where) (turns : List (Turn Element))
    → flat_map (λ (one : Gives). given which one at) (map gives_of (map (λ (turn : Turn Element). turn.elem) turns)) ≡ flat_map (λ (turn : Turn Element). given_in which turn.elem at) turns
each_turn which at [] = refl
each_turn which at (turn ∷ turns) = ap (λ (more : List Met). given_in which turn.elem at ++ more) (each_turn which at turns)

pub inside_turns : (which : Part) (element : Element) (at : Where) → flat_map (λ (turn : Turn Element). given_in which turn.elem at) (turns_of (out-Element element).nodes) ≡ inside which element at
inside_turns which element at =
    sym (each_turn which at (turns_of (out-Element element).nodes)) ∙ ap (λ (all : List Element). flat_map (λ (one : Gives). given which one at) (map gives_of all)) (sym (elems_turns (out-Element element).nodes))

-- no element of some turns has a tag
abbrev pub NoneOf : Tag → List (Turn Element) → Type 0
NoneOf wanted turns = Each (λ (turn : Turn Element). is_same_tag (out-Element turn.elem).tag wanted ≡ false) turns

pub last_behind : (xs : List ℕ) (x : ℕ) → last (xs ++ x ∷ []) ≡ Some x
last_behind [] x = refl
last_behind (y ∷ []) x = refl
last_behind (y ∷ z ∷ zs) x = last_behind (z ∷ zs) x

-- what a call adds here, behind what was added before it
module _ {E : Type 0} where
  pub moved : (result : Result (Unit {0}) E) (here there : Here) (first middle new : List Read) (front xs ys : Where → List Met) (move : Where → Where)
      → ((at : Where) → Stands here at → HasMore first middle (front at))
      → ((at : Where) → Stands here at → Stands there (move at))
      → ((at : Where) → Stands here at → front at ++ xs (move at) ≡ ys at)
      → OnOk result (HasMoreAt there middle new xs) → OnOk result (HasMoreAt here first new ys)
  moved (Ok unit) here there first middle new front xs ys move before stands same more =
      λ at h. more_is first new (front at ++ xs (move at)) (ys at) (same at h) (more_then first middle new (front at) (xs (move at)) (before at h) (more (move at) (stands at h)))
  moved (Err why) here there first middle new front xs ys move before stands same more = tt

  pub alike : (result : Result (Unit {0}) E) (here : Here) (old new : List Read) (xs ys : Where → List Met) → ((at : Where) → Stands here at → xs at ≡ ys at)
      → OnOk result (HasMoreAt here old new xs) → OnOk result (HasMoreAt here old new ys)
  alike (Ok unit) here old new xs ys same more = λ at h. more_is old new (xs at) (ys at) (same at h) (more at h)
  alike (Err why) here old new xs ys same more = tt

  pub anywhere : (result : Result (Unit {0}) E) (here : Here) (old new : List Read) (xs : List Met) (ys : Where → List Met) → ((at : Where) → xs ≡ ys at)
      → OnOk result (HasMore old new xs) → OnOk result (HasMoreAt here old new ys)
  anywhere (Ok unit) here old new xs ys same more = λ at h. more_is old new xs (ys at) (same at) more
  anywhere (Err why) here old new xs ys same more = tt

-- the name that an attribute states
pub name_is : (wanted : Key) (element : Element) (attributes : List Attribute) (found : Option (List ℕ)) → attributes ≡ (out-Element element).attributes → found ≡ stated wanted value.name attributes
    → name_in wanted element ≡ found
name_is wanted element attributes found same is = ap (λ (all : List Attribute). stated wanted value.name all) (sym same) ∙ sym is

-- where the content of a paragraph goes on, and where it doesn't
passed_by : (dropped : Bool) (xs : List Met) → not dropped ≡ true → xs ≡ cond dropped [] xs
passed_by true xs h = absurd (cc)
passed_by false xs h = refl

dropped_by : (dropped : Bool) (xs : List Met) → not dropped ≡ false → [] ≡ cond dropped [] xs
dropped_by true xs h = refl
dropped_by false xs h = absurd (cc)

module _ (place : ℕ) (attributes : List Attribute) (gives : List Gives) (at : Where) where
  pub content_passed : (which : Tag) → which ≢ tag.Note → which ≢ tag.Bookmark → which ≢ tag.BookmarkStart → which ≢ tag.BookmarkEnd → which ≢ tag.Sequence → which ≢ tag.VariableSet → which ≢ tag.VariableGet
      → is_passed which ≡ true → flat_map (λ (one : Gives). one.content at) gives ≡ in_content which place attributes gives at
  content_passed tag.Note a b c d e f g h = absurd (a refl)
  content_passed tag.Bookmark a b c d e f g h = absurd (b refl)
  content_passed tag.BookmarkStart a b c d e f g h = absurd (c refl)
  content_passed tag.BookmarkEnd a b c d e f g h = absurd (d refl)
  content_passed tag.Sequence a b c d e f g h = absurd (e refl)
  content_passed tag.VariableSet a b c d e f g h = absurd (f refl)
  content_passed tag.VariableGet a b c d e f g h = absurd (g refl)
  content_passed tag.Spaces a b c d e f g h = absurd (false≢true h)
  content_passed tag.Tab a b c d e f g h = absurd (false≢true h)
  content_passed tag.LineBreak a b c d e f g h = absurd (false≢true h)
  content_passed tag.Chapter a b c d e f g h = absurd (false≢true h)
  content_passed tag.PageNumber a b c d e f g h = absurd (false≢true h)
  content_passed tag.PageCount a b c d e f g h = absurd (false≢true h)
  content_passed tag.BookmarkReference a b c d e f g h = absurd (false≢true h)
  content_passed tag.SequenceReference a b c d e f g h = absurd (false≢true h)
  content_passed tag.NoteReference a b c d e f g h = absurd (false≢true h)
  content_passed other a b c d e f g h = passed_by (is_dropped other) (flat_map (λ (one : Gives). one.content at) gives) h

  pub content_dropped : (which : Tag) → which ≢ tag.Note → which ≢ tag.Bookmark → which ≢ tag.BookmarkStart → which ≢ tag.BookmarkEnd → which ≢ tag.Sequence → which ≢ tag.VariableSet → which ≢ tag.VariableGet
      → is_passed which ≡ false → [] ≡ in_content which place attributes gives at
  content_dropped tag.Note a b c d e f g h = absurd (a refl)
  content_dropped tag.Bookmark a b c d e f g h = absurd (b refl)
  content_dropped tag.BookmarkStart a b c d e f g h = absurd (c refl)
  content_dropped tag.BookmarkEnd a b c d e f g h = absurd (d refl)
  content_dropped tag.Sequence a b c d e f g h = absurd (e refl)
  content_dropped tag.VariableSet a b c d e f g h = absurd (f refl)
  content_dropped tag.VariableGet a b c d e f g h = absurd (g refl)
  content_dropped tag.Spaces a b c d e f g h = refl
  content_dropped tag.Tab a b c d e f g h = refl
  content_dropped tag.LineBreak a b c d e f g h = refl
  content_dropped tag.Chapter a b c d e f g h = refl
  content_dropped tag.PageNumber a b c d e f g h = refl
  content_dropped tag.PageCount a b c d e f g h = refl
  content_dropped tag.BookmarkReference a b c d e f g h = refl
  content_dropped tag.SequenceReference a b c d e f g h = refl
  content_dropped tag.NoteReference a b c d e f g h = refl
  content_dropped other a b c d e f g h = dropped_by (is_dropped other) (flat_map (λ (one : Gives). one.content at) gives) h

  pub blocks_other : (which : Tag) → which ≢ tag.Paragraph → which ≢ tag.Heading → which ≢ tag.List → which ≢ tag.Section → which ≢ tag.Index → which ≢ tag.Table → [] ≡ in_blocks which place attributes gives at
  blocks_other tag.Paragraph a b c d e f = absurd (a refl)
  blocks_other tag.Heading a b c d e f = absurd (b refl)
  blocks_other tag.List a b c d e f = absurd (c refl)
  blocks_other tag.Section a b c d e f = absurd (d refl)
  blocks_other tag.Index a b c d e f = absurd (e refl)
  blocks_other tag.Table a b c d e f = absurd (f refl)
  blocks_other _ a b c d e f = refl

  pub entry_other : (which : Tag) → which ≢ tag.ListItem → which ≢ tag.ListHeader → [] ≡ in_list which gives at
  entry_other tag.ListItem a b = absurd (a refl)
  entry_other tag.ListHeader a b = absurd (b refl)
  entry_other _ a b = refl

-- sections that are passed, and one that is met
pub section_nowhere : (place : ℕ) (name : Option (List ℕ)) (gives : List Gives) (at : Where) → reads_sections at ≡ false → flat_map (λ (one : Gives). one.blocks at) gives ≡ section_met place name gives at
section_nowhere place None gives at h = refl
section_nowhere place (Some name) gives at h =
    sym (ap (λ b. cond b (Section (record { place = place; name = name; around = at.sections }) ∷ each (λ one. one.blocks) (record at { sections = at.sections ++ place ∷ [] }) gives) (each (λ one. one.blocks) at gives)) h)

pub section_here : (place : ℕ) (name : List ℕ) (stated : Option (List ℕ)) (gives : List Gives) (at : Where) → stated ≡ Some name → reads_sections at ≡ true
    → (Section (record { place = place; name = name; around = at.sections }) ∷ []) ++ flat_map (λ (one : Gives). one.blocks (record at { sections = at.sections ++ place ∷ [] })) gives ≡ section_met place stated gives at
section_here place name stated gives at e h =
    sym (ap (λ one. section_met place one gives at) e
    ∙ ap (λ b. cond b (Section (record { place = place; name = name; around = at.sections }) ∷ each (λ one. one.blocks) (record at { sections = at.sections ++ place ∷ [] }) gives) (each (λ one. one.blocks) at gives)) h)

-- the first of a tag among turns
first_turn : (wanted : Tag) (turns : List (Turn Element)) (i : ℕ) (turn : Turn Element) → i < length turns → turn ≡ slice_index_or turns i turn → NoneOf wanted (take i turns)
    → is_same_tag (out-Element turn.elem).tag wanted ≡ true → first_given wanted (map gives_of (map (λ (one : Turn Element). one.elem) turns)) ≡ gives_of turn.elem ∷ []
first_turn wanted [] i turn l is none same = absurd (omega (arith, l))
first_turn wanted (u ∷ us) zero turn l is none same =
    ap (λ b. cond b (gives_of u.elem ∷ []) (first_given wanted (map gives_of (map (λ (one : Turn Element). one.elem) us))))
    (ap (λ which. is_same_tag which wanted) (tag_out u.elem) ∙ ap (λ (one : Turn Element). is_same_tag (out-Element one.elem).tag wanted) (sym is) ∙ same)
    ∙ ap (λ (one : Turn Element). gives_of one.elem ∷ []) (sym is)
first_turn wanted (u ∷ us) (suc i) turn l is none same =
    ap (λ b. cond b (gives_of u.elem ∷ []) (first_given wanted (map gives_of (map (λ (one : Turn Element). one.elem) us)))) (ap (λ which. is_same_tag which wanted) (tag_out u.elem) ∙ none.0)
    ∙ first_turn wanted us i turn (omega (arith, l)) is none.1 same

no_turn : (wanted : Tag) (turns : List (Turn Element)) → NoneOf wanted turns → first_given wanted (map gives_of (map (λ (one : Turn Element). one.elem) turns)) ≡ []
no_turn wanted [] none = refl
no_turn wanted (u ∷ us) none =
    ap (λ b. cond b (gives_of u.elem ∷ []) (first_given wanted (map gives_of (map (λ (one : Turn Element). one.elem) us)))) (ap (λ which. is_same_tag which wanted) (tag_out u.elem) ∙ none.0)
    ∙ no_turn wanted us none.1

pub first_is : (wanted : Tag) (element : Element) (turns : List (Turn Element)) (i : ℕ) (turn : Turn Element) → turns ≡ turns_of (out-Element element).nodes → i < length turns → turn ≡ slice_index_or turns i turn
    → NoneOf wanted (take i turns) → is_same_tag (out-Element turn.elem).tag wanted ≡ true → (at : Where)
    → inside part.Blocks turn.elem at ≡ each (λ one. one.inside) at (first_given wanted (held element))
first_is wanted element turns i turn all l is none same at =
    sym (ap (λ (some : List Element). each (λ one. one.inside) at (first_given wanted (map gives_of some))) (elems_turns (out-Element element).nodes)
    ∙ ap (λ (some : List (Turn Element)). each (λ one. one.inside) at (first_given wanted (map gives_of (map (λ (one : Turn Element). one.elem) some)))) (sym all)
    ∙ ap (λ (some : List Gives). each (λ one. one.inside) at some) (first_turn wanted turns i turn l is none same)
    ∙ append-nil ((gives_of turn.elem).inside at) ∙ inside_out turn.elem at)

pub first_isnt : (wanted : Tag) (element : Element) (turns : List (Turn Element)) → turns ≡ turns_of (out-Element element).nodes → NoneOf wanted turns → first_given wanted (held element) ≡ []
first_isnt wanted element turns all none =
    ap (λ (some : List Element). first_given wanted (map gives_of some)) (elems_turns (out-Element element).nodes)
    ∙ ap (λ (some : List (Turn Element)). first_given wanted (map gives_of (map (λ (one : Turn Element). one.elem) some))) (sym all)
    ∙ no_turn wanted turns none

pub same_more : (one other : Vec Read Global) → one ≡ other → HasMore one.items other.items []
same_more one other e = ap (λ (all : Vec Read Global). map met_of all.items) (sym e) ∙ more_none one.items

-- a note in the body
pub note_here : (place : ℕ) (id : Option (List ℕ)) (gives : List Gives) (at : Where) → at.text ≡ 0
    → map Note (named_at place id) ++ each (λ one. one.inside) (in_note place) (first_given tag.NoteBody gives) ≡ note_met place id gives at
note_here place id gives at h =
    sym (ap (λ text. cond (text == 0) (map Note (named_at place id) ++ each (λ one. one.inside) (in_note place) (first_given tag.NoteBody gives)) []) h)

-- a mark
pub mark_here : {E : Type 0} (result : Result (Unit {0}) E) (here : Here) (old new : List Read) (kind : MarkKind) (place : ℕ) (name : List ℕ) (stated : Option (List ℕ)) → stated ≡ Some name
    → OnOk result (map met_of new ≡ map met_of old ++ Mark (record { place = place; text = here.text; kind = kind; name = name }) ∷ []) → OnOk result (HasMoreAt here old new (mark_met kind place stated))
mark_here (Ok unit) here old new kind place name stated e more = λ at h.
    more ∙ ap (λ text. map met_of old ++ map outlined (Mark (record { place = place; text = text; kind = kind; name = name }) ∷ [])) h.text
    ∙ ap (λ one. map met_of old ++ map outlined (mark_met kind place one at)) (sym e)
mark_here (Err why) here old new kind place name stated e more = tt
