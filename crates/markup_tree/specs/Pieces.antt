-- The constructs that a document is a row of, where each may stand, and what it says.
use Rattle.std.specs.Prelude.{◌≡◌, ◌≢◌, ℕ, ◌==◌, ◌&&◌, Bool, true, false, List, [], ◌∷◌, ◌++◌, codes, chars, ◌⊎◌, if◌then◌else◌, Option, Some, None, IfSome}
use Rattle.std.specs.Option.{option_map}
use Rattle.markup_parts.specs.Chars.{is_legal, is_space}
use Rattle.markup_parts.specs.Outcomes.{Construct}
use Rattle.markup_parts.specs.Constructs.{EndsBefore, IsText, IsLiteral, IsReference, IsUpTo, IsComment}
use Rattle.markup_tags.specs.Instructions.{IsInstruction, IsFirstInstruction}
use Rattle.markup_tags.specs.Tags.{IsTag, IsEndTag}
use Rattle.markup_tree.specs.declared.part.Part.{Part}
use Rattle.markup_tree.specs.declared.part.Part.TheVariants.{Start, Before, Inside, After}
use Rattle.markup_tags.specs.declared.tags.Tag.{Tag}
use Rattle.markup_tree.specs.declared.construct.Says.{Says}
use Rattle.markup_tree.specs.declared.construct.Says.TheVariants as says

-- what a construct says
pub data Saying : Type 0 where
  Silent : Saying
  Begins : (tag : Tag) → Saying
  Ends : (name : List ℕ) → Saying
  Holds : (characters : List ℕ) → Saying
  Declares : Saying

-- a line feed for each carriage return, and none right behind one
abbrev pub lines_from : Bool → List ℕ → List ℕ
lines_from returned [] = []
lines_from returned (c ∷ cs) =
    if c == 0xd then 0xa ∷ lines_from true cs
    else if returned && (c == 0xa) then lines_from false cs
    else c ∷ lines_from false cs

-- characters with CR LF and CR as line feeds
abbrev pub line_ends : List ℕ → List ℕ
line_ends = lines_from false

-- what the code's answer says
abbrev pub said : Says → Saying
said says.Nothing = Silent
said (says.Tag tag) = Begins tag
said (says.End name) = Ends (chars name.now)
said (says.Char c) = Holds (c ∷ [])
said (says.Data text) = Holds (line_ends (chars text.now))
said says.Doctype = Declares

-- a given text, and behind it something whose value says this
pub record Behind {V : Type 0} (front : List ℕ) (Is : Construct V) (says : V → Saying) (text : List ℕ) (saying : Option Saying) (after : List ℕ) : Type 0 where
  pub rest : List ℕ
  pub value : Option V
  pub text_is : text ≡ front ++ rest
  pub is : Is rest value after
  pub saying_is : saying ≡ option_map says value

-- the parts before the root
abbrev pub IsInProlog : Part → Type 0
IsInProlog Start = Unit {0}
IsInProlog Before = Unit {0}
IsInProlog _ = ⊥

-- one construct or another
infixr 2 ◌or◌
abbrev pub ◌or◌ : Construct Saying → Construct Saying → List ℕ → Option Saying → List ℕ → Type 0
(Is or Other) text saying after = Is text saying after ⊎ Other text saying after

abbrev pub silent : Unit {0} → Saying
silent unit = Silent

-- no construct stands there
abbrev pub Nowhere : List ℕ → Option Saying → List ℕ → Type 0
Nowhere text saying after = ⊥

-- a `]` that doesn't begin `]]>`, which is refused
abbrev pub IsBracket : List ℕ → Option Saying → List ℕ → Type 0
IsBracket text (Some saying) after =
    (text ≡ codes "]" ++ after) × (saying ≡ Holds (codes "]"))
    × (EndsBefore (λ c. c == 0x5d) after ⊎ ((rest : List ℕ) × (after ≡ codes "]" ++ rest) × EndsBefore (λ c. c == 0x3e) rest))
IsBracket text None after = text ≡ codes "]]>" ++ after

-- any other character that stands for itself
abbrev pub IsOther : List ℕ → Option Saying → List ℕ → Type 0
IsOther text saying after =
    (c : Option ℕ) × IsLiteral text c after × IfSome c (λ d. (d ≢ 0x3c) × (d ≢ 0x26) × (d ≢ 0x5d)) × (saying ≡ option_map (λ d. Holds (d ∷ [])) c)

-- white space outside the root
abbrev pub IsBlank : List ℕ → Option Saying → List ℕ → Type 0
IsBlank text saying after = (c : ℕ) × (is_space c ≡ true) × (text ≡ c ∷ after) × (saying ≡ Some Silent)

-- what isn't markup: in the root a reference or a character
abbrev pub IsPlain : Part → List ℕ → Option Saying → List ℕ → Type 0
IsPlain Inside = Behind (codes "&") IsReference (λ c. Holds (c ∷ [])) or IsBracket or IsOther
IsPlain _ = IsBlank

-- an instruction, or at the start a declaration
abbrev pub IsSkipped : Part → List ℕ → Option (Unit {0}) → List ℕ → Type 0
IsSkipped Start = IsFirstInstruction
IsSkipped _ = IsInstruction

-- what may stand behind `<!` beside a comment: a CDATA section in the root, a document type before it
abbrev pub IsSpecial : Part → List ℕ → Option Saying → List ℕ → Type 0
IsSpecial Inside = Behind (codes "[CDATA[") (IsUpTo is_legal (codes "]]>")) (λ body. Holds (line_ends body))
IsSpecial After = Nowhere
IsSpecial _ = Behind (codes "DOCTYPE") (IsText []) (λ unit. Declares)

-- a tag that begins an element, or in the root one that ends it
abbrev pub IsElementTag : Part → List ℕ → Option Saying → List ℕ → Type 0
IsElementTag Inside = Behind (codes "/") IsEndTag Ends or Behind [] IsTag Begins
IsElementTag After = Nowhere
IsElementTag _ = Behind [] IsTag Begins

-- markup behind its `<`
abbrev pub IsMarkup : Part → List ℕ → Option Saying → List ℕ → Type 0
IsMarkup part = Behind (codes "!") (Behind (codes "--") IsComment silent or IsSpecial part) (λ saying. saying)
    or Behind (codes "?") (IsSkipped part) silent
    or IsElementTag part

-- a construct of a document in this part
abbrev pub IsConstruct : Part → List ℕ → Option Saying → List ℕ → Type 0
IsConstruct part = Behind (codes "<") (IsMarkup part) (λ saying. saying) or IsPlain part
