-- What a construct says has legal characters.
use Rattle.std.proofs.Common.{◌≡◌, ℕ, inl, inr, ◌&&◌, ◌==◌, Bool, true, false, cond, List, [], ◌∷◌, refl, sym, subst, arith, codes, Option, Some, None}
use Rattle.std.specs.Option.{option_map}
use Rattle.std.specs.List.{AllByRecursion as Each}
use Rattle.markup_parts.specs.Chars.{is_legal, is_space}
use Rattle.markup_parts.specs.Outcomes.{Construct}
use Rattle.markup_parts.specs.Constructs.{IsText, IsLiteral, IsReference, IsUpTo, IsComment}
use Rattle.markup_nodes.specs.declared.words.Attr.{Attr}
use Rattle.markup_tags.specs.declared.tags.Tag.{Tag}
use Rattle.markup_tags.specs.Tags.{IsValueChar, IsValuePart, AreAttributes, IsTag, IsEndTag}
use Rattle.markup_tree.specs.declared.part.Part.{Part}
use Rattle.markup_tree.specs.declared.part.Part.TheVariants.{Start, Before, Inside, After}
use Rattle.markup_tree.specs.Pieces.{Saying, Silent, Begins, Ends, Holds, Declares, lines_from, line_ends, Behind, ◌or◌, silent, IsPlain, IsSkipped, IsSpecial, IsElementTag, IsMarkup, IsConstruct}
use Rattle.doc_model.specs.Chars.{IsLegal}
use Rattle.legal_trees.proofs.Chars.{some_same, none_some, ordinary, feed, legal, literal_legal, reference_legal}

-- attributes with legal values
abbrev pub AreLegalAttrs : List Attr → Type 0
AreLegalAttrs attrs = Each (λ attr. Each IsLegal attr.value) attrs

-- what is said has legal characters
abbrev pub IsLegalSaying : Saying → Type 0
IsLegalSaying (Begins tag) = AreLegalAttrs tag.attrs
IsLegalSaying (Holds characters) = Each IsLegal characters
IsLegalSaying _ = Unit {0}

-- each value of a construct is so
abbrev Tells : {V : Type 0} → (V → Type 0) → Construct V → Type 0
Tells {V} P Is = (text : List ℕ) (value : V) (after : List ℕ) → Is text (Some value) after → P value

-- values of attributes
value_char_legal : (quote : ℕ) (text : List ℕ) (c : ℕ) (after : List ℕ) → IsValueChar quote text c after → IsLegal c
value_char_legal quote text c after (inl h) = by_test (is_space h.0) h.5 where
  by_test : (b : Bool) → c ≡ cond b 0x20 h.0 → IsLegal c
  by_test true e = ordinary c (omega (arith, e)) (omega (arith, e))
  by_test false e = subst IsLegal (sym e) (literal_legal text h.0 after h.1)
value_char_legal quote text c after (inr h) = reference_legal h.0 c after h.2

value_legal : (quote : ℕ) (text value after : List ℕ) → IsValuePart quote text value after → Each IsLegal value
value_legal quote text [] after h = tt
value_legal quote text (c ∷ cs) after h = (value_char_legal quote text c h.0 h.1, value_legal quote h.0 cs after h.2)

attributes_legal : (text : List ℕ) (attrs : List Attr) (after : List ℕ) → AreAttributes text attrs after → AreLegalAttrs attrs
attributes_legal text [] after h = tt
attributes_legal text (attr ∷ attrs) after h = (value_legal h.3.2.0 h.3.2.1 attr.value (h.3.2.0 ∷ h.1) h.3.2.3, attributes_legal h.1 attrs after h.4)

tag_legal : Tells (λ tag. AreLegalAttrs tag.attrs) IsTag
tag_legal text tag after h = attributes_legal h.0 tag.attrs h.2.0 h.2.2

-- characters up to an end, with their line ends
body_legal : (end text body after : List ℕ) → IsUpTo is_legal end text (Some body) after → Each IsLegal body
body_legal end text [] after h = tt
body_legal end text (c ∷ cs) after h = (legal c h.1, body_legal end h.2.0 cs after h.2.2)

lines_legal : (returned : Bool) (cs : List ℕ) → Each IsLegal cs → Each IsLegal (lines_from returned cs)
lines_legal returned [] each = tt
lines_legal returned (c ∷ cs) each = by_tests (c == 0xd) (returned && (c == 0xa)) (lines_legal true cs each.1) (lines_legal false cs each.1) where
  by_tests : (a b : Bool) → Each IsLegal (lines_from true cs) → Each IsLegal (lines_from false cs) → Each IsLegal (cond a (0xa ∷ lines_from true cs) (cond b (lines_from false cs) (c ∷ lines_from false cs)))
  by_tests true b one other = (feed 0xa refl, one)
  by_tests false true one other = other
  by_tests false false one other = (each.0, other)

-- constructs of a document
module _ {V : Type 0} (P : V → Type 0) (front : List ℕ) (Is : Construct V) (says : V → Saying) (tells : Tells P Is) (said : (value : V) → P value → IsLegalSaying (says value)) where
  of_rest : (saying : Saying) (after rest : List ℕ) (value : Option V) → Is rest value after → Some saying ≡ option_map says value → IsLegalSaying saying
  of_rest saying after rest None is e = absurd (none_some (sym e))
  of_rest saying after rest (Some value) is e = subst IsLegalSaying (sym (some_same e)) (said value (tells rest value after is))

  behind_legal : Tells IsLegalSaying (Behind front Is says)
  behind_legal text saying after h = of_rest saying after h.rest h.value h.is h.saying_is

abbrev Any : {V : Type 0} → V → Type 0
Any value = Unit {0}

-- what says nothing of characters
module _ {V : Type 0} (front : List ℕ) (Is : Construct V) (says : V → Saying) (said : (value : V) → IsLegalSaying (says value)) where
  silent_legal : Tells IsLegalSaying (Behind front Is says)
  silent_legal = behind_legal Any front Is says (λ text value after h. tt) (λ value any. said value)

or_legal : (Is Other : Construct Saying) → Tells IsLegalSaying Is → Tells IsLegalSaying Other → Tells IsLegalSaying (Is or Other)
or_legal Is Other one other text saying after (inl h) = one text saying after h
or_legal Is Other one other text saying after (inr h) = other text saying after h

type_legal : Tells IsLegalSaying (Behind (codes "DOCTYPE") (IsText []) (λ unit. Declares))
type_legal = silent_legal (codes "DOCTYPE") (IsText []) (λ unit. Declares) (λ unit. tt)

special_legal : (part : Part) → Tells IsLegalSaying (IsSpecial part)
special_legal Start = type_legal
special_legal Before = type_legal
special_legal Inside =
    behind_legal (Each IsLegal) (codes "[CDATA[") (IsUpTo is_legal (codes "]]>")) (λ body. Holds (line_ends body))
    (λ text body after h. body_legal (codes "]]>") text body after h) (λ body each. lines_legal false body each)
special_legal After = λ text saying after h. absurd h

begin_legal : Tells IsLegalSaying (Behind [] IsTag Begins)
begin_legal = behind_legal (λ (tag : Tag). AreLegalAttrs tag.attrs) [] IsTag Begins tag_legal (λ tag each. each)

element_legal : (part : Part) → Tells IsLegalSaying (IsElementTag part)
element_legal Start = begin_legal
element_legal Before = begin_legal
element_legal Inside = or_legal (Behind (codes "/") IsEndTag Ends) (Behind [] IsTag Begins) (silent_legal (codes "/") IsEndTag Ends (λ name. tt)) begin_legal
element_legal After = λ text saying after h. absurd h

markup_legal : (part : Part) → Tells IsLegalSaying (IsMarkup part)
markup_legal part =
    or_legal (Behind (codes "!") (Behind (codes "--") IsComment silent or IsSpecial part) (λ saying. saying)) (Behind (codes "?") (IsSkipped part) silent or IsElementTag part)
    (behind_legal IsLegalSaying (codes "!") (Behind (codes "--") IsComment silent or IsSpecial part) (λ saying. saying)
    (or_legal (Behind (codes "--") IsComment silent) (IsSpecial part) (silent_legal (codes "--") IsComment silent (λ unit. tt)) (special_legal part)) (λ saying is. is))
    (or_legal (Behind (codes "?") (IsSkipped part) silent) (IsElementTag part) (silent_legal (codes "?") (IsSkipped part) silent (λ unit. tt)) (element_legal part))

-- a character that stands for itself
other_legal : (text : List ℕ) (saying : Saying) (c : Option ℕ) (after : List ℕ) → IsLiteral text c after → Some saying ≡ option_map (λ d. Holds (d ∷ [])) c → IsLegalSaying saying
other_legal text saying None after h e = absurd (none_some (sym e))
other_legal text saying (Some c) after h e = subst IsLegalSaying (sym (some_same e)) (literal_legal text c after h, tt)

bracket_legal : (saying : Saying) → saying ≡ Holds (codes "]") → IsLegalSaying saying
bracket_legal saying e = subst IsLegalSaying (sym e) (ordinary 0x5d (omega arith) (omega arith), tt)

held_legal : Tells IsLegalSaying (IsPlain Inside)
held_legal text saying after (inl h) = behind_legal IsLegal (codes "&") IsReference (λ c. Holds (c ∷ [])) (λ text c after h. reference_legal text c after h) (λ c is. (is, tt)) text saying after h
held_legal text saying after (inr (inl h)) = bracket_legal saying h.1
held_legal text saying after (inr (inr h)) = other_legal text saying h.0 after h.1 h.3

blank_legal : (saying : Saying) → Some saying ≡ Some Silent → IsLegalSaying saying
blank_legal saying e = subst IsLegalSaying (sym (some_same e)) tt

plain_legal : (part : Part) → Tells IsLegalSaying (IsPlain part)
plain_legal Start text saying after h = blank_legal saying h.3
plain_legal Before text saying after h = blank_legal saying h.3
plain_legal Inside text saying after h = held_legal text saying after h
plain_legal After text saying after h = blank_legal saying h.3

-- each character that a construct says is legal
pub construct_legal : (part : Part) (text : List ℕ) (saying : Saying) (after : List ℕ) → IsConstruct part text (Some saying) after → IsLegalSaying saying
construct_legal part text saying after (inl h) = behind_legal IsLegalSaying (codes "<") (IsMarkup part) (λ saying. saying) (markup_legal part) (λ saying is. is) text saying after h
construct_legal part text saying after (inr h) = plain_legal part text saying after h
