-- The limits that a changed document may pass, where the others measure what they did.
use Rattle.std.proofs.Common.{◌≡◌, ℕ, ◌≤◌, Bool, false, cond, [], ◌∷◌, refl, ap, ◌∙◌, Some, None}
use Rattle.std.specs.Prelude.{nat_lt}
use Rattle.std.proofs.lemmas.Bool.{le-ltb}
use Rattle.doc_model.specs.declared.document.Document.{Document}
use Rattle.doc_model.specs.declared.refusal.Limit.{Limit}
use Rattle.doc_model.specs.declared.refusal.Limit.TheVariants as limit
use Rattle.doc_model.specs.Limits.{IsWithinLimits, measure, limit_number, first_passed}
use Rattle.edit_limits.specs.Over.{Reached, first_over}

-- a test against a number that isn't passed
pub not_passed : (most n : ℕ) → n ≤ most → nat_lt most n ≡ false
not_passed most n below = le-ltb most n below

-- what a limit would measure in a document
abbrev pub reached : Document → Limit → Reached
reached doc which = record { limit = which; count = measure doc which }

-- the measures that a change of paragraphs leaves
pub record Leaves (old new : Document) : Type 0 where
  pub sections : measure new limit.Sections ≡ measure old limit.Sections
  pub depth : measure new limit.SectionDepth ≡ measure old limit.SectionDepth
  pub styles : measure new limit.Styles ≡ measure old limit.Styles
  pub lists : measure new limit.ListStyles ≡ measure old limit.ListStyles
  pub layouts : measure new limit.Layouts ≡ measure old limit.Layouts
  pub masters : measure new limit.Masters ≡ measure old limit.Masters
  pub declarations : measure new limit.Declarations ≡ measure old limit.Declarations

four_left : (a b c d e f g h i j k : Bool) → d ≡ false → e ≡ false → f ≡ false → g ≡ false → h ≡ false → i ≡ false → j ≡ false
    → cond a (Some limit.Paragraphs) (cond b (Some limit.ItemsOfParagraph) (cond c (Some limit.Items) (cond d (Some limit.Sections) (cond e (Some limit.SectionDepth)
    (cond f (Some limit.Styles) (cond g (Some limit.ListStyles) (cond h (Some limit.Layouts) (cond i (Some limit.Masters) (cond j (Some limit.Declarations) (cond k (Some limit.NameLength) None))))))))))
    ≡ cond a (Some limit.Paragraphs) (cond b (Some limit.ItemsOfParagraph) (cond c (Some limit.Items) (cond k (Some limit.NameLength) None)))
four_left a b c d e f g h i j k p q r s t u v = rw (p, q, r, s, t, u, v) refl

still : (old new : Document) (which : Limit) → measure new which ≡ measure old which → measure old which ≤ limit_number which → nat_lt (limit_number which) (measure new which) ≡ false
still old new which same below = ap (nat_lt (limit_number which)) same ∙ not_passed (limit_number which) (measure old which) below

pub first_of_four : (old new : Document) → IsWithinLimits old → Leaves old new
    → first_passed new ≡ first_over (reached new limit.Paragraphs ∷ reached new limit.ItemsOfParagraph ∷ reached new limit.Items ∷ reached new limit.NameLength ∷ [])
first_of_four old new within leaves =
    let passes : Limit → Bool = λ which. nat_lt (limit_number which) (measure new which) in
    four_left (passes limit.Paragraphs) (passes limit.ItemsOfParagraph) (passes limit.Items) (passes limit.Sections) (passes limit.SectionDepth)
    (passes limit.Styles) (passes limit.ListStyles) (passes limit.Layouts) (passes limit.Masters) (passes limit.Declarations) (passes limit.NameLength)
    (still old new limit.Sections leaves.sections within.1.1.1.0) (still old new limit.SectionDepth leaves.depth within.1.1.1.1.0)
    (still old new limit.Styles leaves.styles within.1.1.1.1.1.0) (still old new limit.ListStyles leaves.lists within.1.1.1.1.1.1.0)
    (still old new limit.Layouts leaves.layouts within.1.1.1.1.1.1.1.0) (still old new limit.Masters leaves.masters within.1.1.1.1.1.1.1.1.0)
    (still old new limit.Declarations leaves.declarations within.1.1.1.1.1.1.1.1.1.0)

-- the four by tests that come to the same
pub four_as : (a b c d p q r s : ℕ) → nat_lt 65536 a ≡ nat_lt 65536 p → nat_lt 32768 b ≡ nat_lt 32768 q → nat_lt 4194304 c ≡ nat_lt 4194304 r → nat_lt 1024 d ≡ nat_lt 1024 s
    → first_over (record { limit = limit.Paragraphs; count = a } ∷ record { limit = limit.ItemsOfParagraph; count = b } ∷ record { limit = limit.Items; count = c } ∷ record { limit = limit.NameLength; count = d } ∷ [])
    ≡ first_over (record { limit = limit.Paragraphs; count = p } ∷ record { limit = limit.ItemsOfParagraph; count = q } ∷ record { limit = limit.Items; count = r } ∷ record { limit = limit.NameLength; count = s } ∷ [])
four_as a b c d p q r s e f g h = rw (e, f, g, h) refl

pub none_of_four : (a b c d : ℕ) → nat_lt 65536 a ≡ false → nat_lt 32768 b ≡ false → nat_lt 4194304 c ≡ false → nat_lt 1024 d ≡ false
    → first_over (record { limit = limit.Paragraphs; count = a } ∷ record { limit = limit.ItemsOfParagraph; count = b } ∷ record { limit = limit.Items; count = c } ∷ record { limit = limit.NameLength; count = d } ∷ []) ≡ None
none_of_four a b c d e f g h = rw (e, f, g, h) refl

pub two_of_four : (a b c d : ℕ) → nat_lt 65536 a ≡ false → nat_lt 1024 d ≡ false
    → first_over (record { limit = limit.Paragraphs; count = a } ∷ record { limit = limit.ItemsOfParagraph; count = b } ∷ record { limit = limit.Items; count = c } ∷ record { limit = limit.NameLength; count = d } ∷ [])
    ≡ first_over (record { limit = limit.ItemsOfParagraph; count = b } ∷ record { limit = limit.Items; count = c } ∷ [])
two_of_four a b c d e f = rw (e, f) refl
