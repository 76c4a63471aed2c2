-- Behind each construct less of a text is left.
use Rattle.std.proofs.Common.{◌≡◌, ◌<◌, ◌≤◌, ◌+◌, ℕ, Bool, true, false, List, [], ◌∷◌, ◌++◌, length, refl, ap, ◌∙◌, inl, inr, codes, encode_utf8_all, Option, Some, None, arith}
use Rattle.std.specs.Option.{option_map}
use Rattle.std.proofs.lemmas.List.{length-append}
use Rattle.std.proofs.lemmas.Str.{encodes-append, length-le-encodes}
use Rattle.markup_parts.specs.Chars.{is_legal}
use Rattle.markup_parts.specs.Outcomes.{Construct}
use Rattle.markup_parts.specs.Constructs.{IsRun, IsName, IsGap, IsSpace, IsText, IsLiteral, IsNumber, IsEntity, IsNumeric, IsReference, IsUpTo, IsComment}
use Rattle.markup_nodes.specs.declared.words.Attr.{Attr}
use Rattle.markup_tags.specs.Instructions.{IsInstructionRest, IsInstruction, IsFirstInstruction}
use Rattle.markup_tags.specs.Tags.{IsValueChar, IsValuePart, IsEquals, IsAttributeRest, IsAttribute, AreAttributes, IsTagEnd, IsTag, IsEndTag}
use Rattle.markup_tree.specs.declared.part.Part.{Part}
use Rattle.markup_tree.specs.declared.part.Part.TheVariants.{Start, Before, Inside, After}
use Rattle.markup_tree.specs.Documents.{byte_count}
use Rattle.markup_tree.specs.Pieces.{Saying, Begins, Ends, Holds, Declares, line_ends, Behind, ◌or◌, silent, IsPlain, IsSkipped, IsSpecial, IsElementTag, IsMarkup, IsConstruct}

through : (a b c : ℕ) → a ≤ b → b ≤ c → a ≤ c
through a b c l m = omega (arith, l, m)

less : (a b c : ℕ) → a ≤ b → b < c → a < c
less a b c l m = omega (arith, l, m)

not_more : (a b : ℕ) → a < b → a ≤ b
not_more a b l = omega (arith, l)

-- a text without its front
counts : (front after : List ℕ) → byte_count (front ++ after) ≡ byte_count front + byte_count after
counts front after = ap (λ (bytes : List ℕ). length bytes) (encodes-append front after) ∙ length-append (encode_utf8_all front) (encode_utf8_all after)

fewer : (a b c : ℕ) → a ≡ b + c → c ≤ a
fewer a b c e = omega (arith, e)

fewer_still : (a b c n : ℕ) → a ≡ b + c → n ≤ b → 0 < n → c < a
fewer_still a b c n e l m = omega (arith, e, l, m)

pub part_left : (text front after : List ℕ) → text ≡ front ++ after → byte_count after ≤ byte_count text
part_left text front after e = fewer (byte_count text) (byte_count front) (byte_count after) (ap byte_count e ∙ counts front after)

some_left : (text front after : List ℕ) → 0 < length front → text ≡ front ++ after → byte_count after < byte_count text
some_left text front after l e = fewer_still (byte_count text) (byte_count front) (byte_count after) (length front) (ap byte_count e ∙ counts front after) (length-le-encodes front) l

one_left : (text after : List ℕ) (c : ℕ) → text ≡ c ∷ after → byte_count after < byte_count text
one_left text after c e = some_left text (c ∷ []) after (omega arith) e

-- no more is left behind a construct than before it
abbrev Leaves : {V : Type 0} → Construct V → Type 0
Leaves {V} Is = (text : List ℕ) (value : V) (after : List ℕ) → Is text (Some value) after → byte_count after ≤ byte_count text

run_left : (test : ℕ → Bool) (text run after : List ℕ) → IsRun test text run after → byte_count after ≤ byte_count text
run_left test text run after r = part_left text run after r.parts

name_left : (text name after : List ℕ) → IsName text name after → byte_count after ≤ byte_count text
name_left text name after n = part_left text name after n.run.parts

gap_left : (text after : List ℕ) → IsGap text after → byte_count after ≤ byte_count text
gap_left text after g = part_left text g.0 after g.1.parts

space_left : (text after : List ℕ) → IsSpace text after → byte_count after ≤ byte_count text
space_left text after s = part_left text s.0 after s.2.parts

then_left : (text between after : List ℕ) → byte_count between ≤ byte_count text → byte_count after ≤ byte_count between → byte_count after ≤ byte_count text
then_left text between after l m = through (byte_count after) (byte_count between) (byte_count text) m l

behind_one : (text after : List ℕ) (c : ℕ) → byte_count (c ∷ after) ≤ byte_count text → byte_count after ≤ byte_count text
behind_one text after c l = then_left text (c ∷ after) after l (part_left (c ∷ after) (c ∷ []) after refl)

text_left : (front : List ℕ) → Leaves (IsText front)
text_left front text unit after h = part_left text front after h

-- characters and references
literal_less : (text : List ℕ) (c : ℕ) (after : List ℕ) → IsLiteral text (Some c) after → byte_count after < byte_count text
literal_less text c after (inl h) = one_left text after c h.0
literal_less text c after (inr (inl h)) = some_left text (0xd ∷ 0xa ∷ []) after (omega arith) h.0
literal_less text c after (inr (inr h)) = one_left text after 0xd h.0

number_left : (base : ℕ) → Leaves (IsNumber base)
number_left base text c after h = behind_one text after 0x3b (part_left text h.digits (0x3b ∷ after) h.run.parts)

entity_left : Leaves IsEntity
entity_left text c after h = behind_one text after 0x3b (name_left text h.name (0x3b ∷ after) h.is_name)

numeric_left : Leaves IsNumeric
numeric_left text c after (inl h) = number_left 10 text c after h
numeric_left text c after (inr h) = then_left text h.0 after (part_left text (codes "x") h.0 h.1) (number_left 16 h.0 c after h.2)

reference_left : Leaves IsReference
reference_left text c after (inl h) = entity_left text c after h
reference_left text c after (inr h) = then_left text h.0 after (part_left text (codes "#") h.0 h.1) (numeric_left h.0 c after h.2)

up_to_left : (test : ℕ → Bool) (end : List ℕ) → Leaves (IsUpTo test end)
up_to_left test end text [] after h = part_left text end after h
up_to_left test end text (c ∷ cs) after h = then_left text h.2.0 after (part_left text (c ∷ []) h.2.0 h.2.1) (up_to_left test end h.2.0 cs after h.2.2)

comment_left : Leaves IsComment
comment_left text unit after h = behind_one text after 0x3e (up_to_left is_legal (codes "--") text h.0 (0x3e ∷ after) h.1)

-- instructions
rest_left : (test : ℕ → Bool) → Leaves (IsInstructionRest test)
rest_left test text unit after (inl h) = part_left text (codes "?>") after h
rest_left test text unit after (inr h) = then_left text h.1 after (part_left text (h.0 ∷ []) h.1 h.4) (up_to_left test (codes "?>") h.1 h.2 after h.5)

instruction_left : Leaves IsInstruction
instruction_left text unit after h = then_left text h.1 after (name_left text h.0 h.1 h.2) (rest_left is_legal h.1 unit after h.4)

first_left : Leaves IsFirstInstruction
first_left text unit after (inl h) = instruction_left text unit after h
first_left text unit after (inr h) = then_left text h.0 after (name_left text (codes "xml") h.0 h.1) (rest_left (λ c. true) h.0 unit after h.2)

-- tags
value_char_left : (quote : ℕ) (text : List ℕ) (c : ℕ) (after : List ℕ) → IsValueChar quote text c after → byte_count after ≤ byte_count text
value_char_left quote text c after (inl h) = not_more (byte_count after) (byte_count text) (literal_less text h.0 after h.1)
value_char_left quote text c after (inr h) = then_left text h.0 after (part_left text (codes "&") h.0 h.1) (reference_left h.0 c after h.2)

value_left : (quote : ℕ) (text value after : List ℕ) → IsValuePart quote text value after → byte_count after ≤ byte_count text
value_left quote text [] after h = part_left text [] after h
value_left quote text (c ∷ cs) after h = then_left text h.0 after (value_char_left quote text c h.0 h.1) (value_left quote h.0 cs after h.2)

equals_left : Leaves IsEquals
equals_left text quote after h =
    then_left text h.0 after (behind_one text h.0 0x3d (gap_left text (0x3d ∷ h.0) h.1)) (behind_one h.0 after quote (gap_left h.0 (quote ∷ after) h.2.1))

attribute_rest_left : Leaves IsAttributeRest
attribute_rest_left text value after h =
    then_left text h.1 after (equals_left text h.0 h.1 h.2) (behind_one h.1 after h.0 (value_left h.0 h.1 value (h.0 ∷ after) h.3))

attribute_left : Leaves IsAttribute
attribute_left text attr after h = then_left text h.0 after (name_left text attr.name h.0 h.1) (attribute_rest_left h.0 attr.value after h.2)

attributes_left : (text : List ℕ) (attrs : List Attr) (after : List ℕ) → AreAttributes text attrs after → byte_count after ≤ byte_count text
attributes_left text [] after h = part_left text [] after h
attributes_left text (attr ∷ attrs) after h =
    then_left text h.0 after (space_left text h.0 h.2) (then_left h.0 h.1 after (attribute_left h.0 attr h.1 h.3) (attributes_left h.1 attrs after h.4))

tag_end_left : (text : List ℕ) (closed : Bool) (after : List ℕ) → IsTagEnd text closed after → byte_count after ≤ byte_count text
tag_end_left text false after h = part_left text (codes ">") after h
tag_end_left text true after h = part_left text (codes "/>") after h

tag_left : Leaves IsTag
tag_left text tag after h =
    then_left text h.0 after (name_left text tag.name h.0 h.1)
    (then_left h.0 h.2.0 after (attributes_left h.0 tag.attrs h.2.0 h.2.2) (then_left h.2.0 h.2.1 after (gap_left h.2.0 h.2.1 h.2.3) (tag_end_left h.2.1 tag.closed after h.2.4)))

end_tag_left : Leaves IsEndTag
end_tag_left text name after h = then_left text h.0 after (name_left text name h.0 h.1) (behind_one h.0 after 0x3e (gap_left h.0 (0x3e ∷ after) h.2))

-- constructs of a document
module _ {V : Type 0} (front : List ℕ) (Is : Construct V) (says : V → Saying) (leaves : Leaves Is) where
  of_rest : (text : List ℕ) (saying : Saying) (after rest : List ℕ) (value : Option V) → Is rest value after → Some saying ≡ option_map says value → byte_count after ≤ byte_count rest
  of_rest text saying after rest None is e = absurd (cc)
  of_rest text saying after rest (Some value) is e = leaves rest value after is

  behind_left : Leaves (Behind front Is says)
  behind_left text saying after h = then_left text h.rest after (part_left text front h.rest h.text_is) (of_rest text saying after h.rest h.value h.is h.saying_is)

  behind_less : 0 < length front → (text : List ℕ) (saying : Saying) (after : List ℕ) → Behind front Is says text (Some saying) after → byte_count after < byte_count text
  behind_less l text saying after h =
      less (byte_count after) (byte_count h.rest) (byte_count text) (of_rest text saying after h.rest h.value h.is h.saying_is) (some_left text front h.rest l h.text_is)

or_left : (Is Other : Construct Saying) → Leaves Is → Leaves Other → Leaves (Is or Other)
or_left Is Other leaves other text saying after (inl h) = leaves text saying after h
or_left Is Other leaves other text saying after (inr h) = other text saying after h

skipped_left : (part : Part) → Leaves (IsSkipped part)
skipped_left Start = first_left
skipped_left Before = instruction_left
skipped_left Inside = instruction_left
skipped_left After = instruction_left

type_left : Leaves (Behind (codes "DOCTYPE") (IsText []) (λ unit. Declares))
type_left = behind_left (codes "DOCTYPE") (IsText []) (λ unit. Declares) (text_left [])

special_left : (part : Part) → Leaves (IsSpecial part)
special_left Start = type_left
special_left Before = type_left
special_left Inside = behind_left (codes "[CDATA[") (IsUpTo is_legal (codes "]]>")) (λ body. Holds (line_ends body)) (up_to_left is_legal (codes "]]>"))
special_left After = λ text saying after h. absurd h

begin_left : Leaves (Behind [] IsTag Begins)
begin_left = behind_left [] IsTag Begins tag_left

element_left : (part : Part) → Leaves (IsElementTag part)
element_left Start = begin_left
element_left Before = begin_left
element_left Inside = or_left (Behind (codes "/") IsEndTag Ends) (Behind [] IsTag Begins) (behind_left (codes "/") IsEndTag Ends end_tag_left) begin_left
element_left After = λ text saying after h. absurd h

markup_left : (part : Part) → Leaves (IsMarkup part)
markup_left part =
    or_left (Behind (codes "!") (Behind (codes "--") IsComment silent or IsSpecial part) (λ saying. saying)) (Behind (codes "?") (IsSkipped part) silent or IsElementTag part)
    (behind_left (codes "!") (Behind (codes "--") IsComment silent or IsSpecial part) (λ saying. saying)
    (or_left (Behind (codes "--") IsComment silent) (IsSpecial part) (behind_left (codes "--") IsComment silent comment_left) (special_left part)))
    (or_left (Behind (codes "?") (IsSkipped part) silent) (IsElementTag part) (behind_left (codes "?") (IsSkipped part) silent (skipped_left part)) (element_left part))

other_less : (text : List ℕ) (c : Option ℕ) (after : List ℕ) → IsLiteral text c after → byte_count after < byte_count text
other_less text None after h = absurd h
other_less text (Some c) after h = literal_less text c after h

held_less : (text : List ℕ) (saying : Saying) (after : List ℕ) → IsPlain Inside text (Some saying) after → byte_count after < byte_count text
held_less text saying after (inl h) = behind_less (codes "&") IsReference (λ c. Holds (c ∷ [])) reference_left (omega arith) text saying after h
held_less text saying after (inr (inl h)) = some_left text (codes "]") after (omega arith) h.0
held_less text saying after (inr (inr h)) = other_less text h.0 after h.1

plain_less : (part : Part) (text : List ℕ) (saying : Saying) (after : List ℕ) → IsPlain part text (Some saying) after → byte_count after < byte_count text
plain_less Start text saying after h = one_left text after h.0 h.2
plain_less Before text saying after h = one_left text after h.0 h.2
plain_less Inside text saying after h = held_less text saying after h
plain_less After text saying after h = one_left text after h.0 h.2

pub construct_less : (part : Part) (text : List ℕ) (saying : Saying) (after : List ℕ) → IsConstruct part text (Some saying) after → byte_count after < byte_count text
construct_less part text saying after (inl h) = behind_less (codes "<") (IsMarkup part) (λ saying. saying) (markup_left part) (omega arith) text saying after h
construct_less part text saying after (inr h) = plain_less part text saying after h
