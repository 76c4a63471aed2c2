-- A line asks for one edit at most.
use Rattle.std.proofs.Common.{◌≡◌, ℕ, List, [], ◌∷◌, ◌++◌, drop, get_or, refl, ap, sym, ◌∙◌, subst, arith, inl, inr}
use Rattle.std.specs.Prelude.{codes, ◌⊎◌}
use Rattle.std.proofs.lemmas.List.{append_cancel_left, append_cancel_right}
use Rattle.doc_model.specs.declared.edit.EditOp.{EditOp}
use Rattle.doc_model.specs.declared.edit.EditOp.TheVariants.{InsertText, DeleteRange}
use Rattle.desk_model.specs.Script.{IsNumber, IsEditLine, IsGroupOfOne}
use Rattle.script_lang.specs.Parts.{IsNumberThen, IsQuoted, IsInsertion, SpellsLineText}
use Rattle.script_lang.proofs.CutLemmas.{number_then_same, number_same}
use Rattle.script_lang.proofs.SpellLemmas.{text_same}

-- the bytes are the number of a paragraph and two places
abbrev pub IsDeletion : List ℕ → ℕ → ℕ → ℕ → Type 0
IsDeletion bytes par from to = (after : List ℕ) × (last : List ℕ) × IsNumberThen bytes par after × IsNumberThen after from last × IsNumber last to

abbrev pub insertion : ℕ → ℕ → List ℕ → EditOp
insertion par at text = InsertText (record { 0 = par }) at text

abbrev pub deletion : ℕ → ℕ → ℕ → EditOp
deletion par from to = DeleteRange (record { 0 = par }) from to

pub insertion_line : (bytes inside text : List ℕ) (par at : ℕ) → IsInsertion bytes par at inside → SpellsLineText inside text → IsEditLine (codes "insert " ++ bytes) (insertion par at text)
insertion_line bytes inside text par at h spells =
    let pars = h.2.0 in
    let ats = h.3.0 in
    let place = h.3.2 ∙ ap (λ (q : List ℕ). ats ++ (codes " " ++ q)) h.4 in
    (pars, ats, inside, h.2.1, h.3.1, spells.0, spells.1, ap (λ (b : List ℕ). codes "insert " ++ b) (h.2.2 ∙ ap (λ (a : List ℕ). pars ++ (codes " " ++ a)) place))

pub insertion_parts_lem : (bytes text : List ℕ) (par at : ℕ) → IsEditLine (codes "insert " ++ bytes) (insertion par at text) → (inside : List ℕ) × IsInsertion bytes par at inside × SpellsLineText inside text
insertion_parts_lem bytes text par at h = (
  h.2,
  (
    h.1 ++ (codes " \"" ++ (h.2 ++ codes "\"")),
    codes "\"" ++ (h.2 ++ codes "\""),
    (h.0, h.3, append_cancel_left (codes "insert ") bytes (h.0 ++ (codes " " ++ (h.1 ++ (codes " \"" ++ (h.2 ++ codes "\""))))) h.7),
    (h.1, h.4, refl),
    refl,
  ),
  (h.5, h.6),
)

pub deletion_line : (bytes : List ℕ) (par from to : ℕ) → IsDeletion bytes par from to → IsEditLine (codes "delete " ++ bytes) (deletion par from to)
deletion_line bytes par from to h =
    let pars = h.2.0 in
    (pars, h.3.0, h.1, h.2.1, h.3.1, h.4, ap (λ (b : List ℕ). codes "delete " ++ b) (h.2.2 ∙ ap (λ (a : List ℕ). pars ++ (codes " " ++ a)) h.3.2))

pub deletion_parts_lem : (bytes : List ℕ) (par from to : ℕ) → IsEditLine (codes "delete " ++ bytes) (deletion par from to) → IsDeletion bytes par from to
deletion_parts_lem bytes par from to h = (
  h.1 ++ (codes " " ++ h.2),
  h.2,
  (h.0, h.3, append_cancel_left (codes "delete ") bytes (h.0 ++ (codes " " ++ (h.1 ++ (codes " " ++ h.2)))) h.6),
  (h.1, h.4, refl),
  h.5,
)

quoted_same : (bytes inside other : List ℕ) → IsQuoted bytes inside → IsQuoted bytes other → inside ≡ other
quoted_same bytes inside other p q = append_cancel_right inside other (codes "\"") (ap (drop 1) (sym p ∙ q))

numbers_same : (bytes after other last final : List ℕ) (par here at there : ℕ) → IsNumberThen bytes par after → IsNumberThen after at last
    → IsNumberThen bytes here other → IsNumberThen other there final → (par ≡ here) × (at ≡ there) × (last ≡ final)
numbers_same bytes after other last final par here at there p q r s =
    let first = number_then_same bytes after other par here p r in
    let moved = subst (λ (b : List ℕ). IsNumberThen b at last) first.1 q in
    let second = number_then_same other last final at there moved s in
    (first.0, second.0, second.1)

insertion_same : (bytes inside within text words : List ℕ) (par here at there : ℕ) → IsInsertion bytes par at inside → IsInsertion bytes here there within
    → SpellsLineText inside text → SpellsLineText within words → insertion here there words ≡ insertion par at text
insertion_same bytes inside within text words par here at there p q spells spelled =
    let numbers = numbers_same bytes p.0 q.0 p.1 q.1 par here at there p.2 p.3 q.2 q.3 in
    let same = quoted_same q.1 inside within (subst (λ (b : List ℕ). IsQuoted b inside) numbers.2 p.4) q.4 in
    let texts = text_same within text words (subst (λ (b : List ℕ). SpellsLineText b text) same spells) spelled in
    sym (ap (λ (n : ℕ). insertion n at text) numbers.0 ∙ ap (λ (n : ℕ). insertion here n text) numbers.1 ∙ ap (λ (cs : List ℕ). insertion here there cs) texts)

deletion_same : (bytes : List ℕ) (par here from there to where_to : ℕ) → IsDeletion bytes par from to → IsDeletion bytes here there where_to → deletion here there where_to ≡ deletion par from to
deletion_same bytes par here from there to where_to p q =
    let numbers = numbers_same bytes p.0 q.0 p.1 q.1 par here from there p.2 p.3 q.2 q.3 in
    let last = number_same p.1 q.1 to where_to numbers.2 p.4 q.4 in
    sym (ap (λ (n : ℕ). deletion n from to) numbers.0 ∙ ap (λ (n : ℕ). deletion here n to) numbers.1 ∙ ap (λ (n : ℕ). deletion here there n) last)

-- the line is an insertion, and asks for this edit
pub record InsertionIs (line : List ℕ) (edit : EditOp) : Type 0 where
  pub bytes : List ℕ
  pub spelled : line ≡ codes "insert " ++ bytes
  pub par : ℕ
  pub at : ℕ
  pub inside : List ℕ
  pub text : List ℕ
  pub is : edit ≡ insertion par at text
  pub parts : IsInsertion bytes par at inside
  pub spells : SpellsLineText inside text

-- the line is a deletion, and asks for this edit
pub record DeletionIs (line : List ℕ) (edit : EditOp) : Type 0 where
  pub bytes : List ℕ
  pub spelled : line ≡ codes "delete " ++ bytes
  pub par : ℕ
  pub from : ℕ
  pub to : ℕ
  pub is : edit ≡ deletion par from to
  pub parts : IsDeletion bytes par from to

-- a line that asks for an edit is an insertion or a deletion
pub edit_forms : (line : List ℕ) (edit : EditOp) → IsEditLine line edit → InsertionIs line edit ⊎ DeletionIs line edit
edit_forms line (InsertText par at text) h =
    let bytes : List ℕ = h.0 ++ (codes " " ++ (h.1 ++ (codes " \"" ++ (h.2 ++ codes "\"")))) in
    let found = insertion_parts_lem bytes text par.0 at (subst (λ (l : List ℕ). IsEditLine l (insertion par.0 at text)) h.7 h) in
    inl (record { bytes = bytes; spelled = h.7; par = par.0; at = at; inside = found.0; text = text; is = refl; parts = found.1; spells = found.2 })
edit_forms line (DeleteRange par from to) h =
    let bytes : List ℕ = h.0 ++ (codes " " ++ (h.1 ++ (codes " " ++ h.2))) in
    inr (record { bytes = bytes; spelled = h.6; par = par.0; from = from; to = to; is = refl; parts = deletion_parts_lem bytes par.0 from to (subst (λ (l : List ℕ). IsEditLine l (deletion par.0 from to)) h.6 h) })
edit_forms line _ h = absurd h

apart : (line left right : List ℕ) → line ≡ codes "insert " ++ left → line ≡ codes "delete " ++ right → ⊥
apart line left right p q = absurd (omega (arith, ap (λ (ys : List ℕ). get_or ys 0 0) (sym p ∙ q)))

-- a line asks for one edit at most
pub edit_same : (line : List ℕ) (edit other : EditOp) → IsEditLine line edit → IsEditLine line other → other ≡ edit
edit_same line edit other p q =
    elim (edit_forms line edit p) [
      | inl a ↦ elim (edit_forms line other q) [
        | inl b ↦ b.is ∙ insertion_same a.bytes a.inside b.inside a.text b.text a.par b.par a.at b.at a.parts
            (subst (λ (bytes : List ℕ). IsInsertion bytes b.par b.at b.inside) (append_cancel_left (codes "insert ") b.bytes a.bytes (sym b.spelled ∙ a.spelled)) b.parts) a.spells b.spells ∙ sym a.is
        | inr b ↦ absurd (apart line a.bytes b.bytes a.spelled b.spelled)
      ]
      | inr a ↦ elim (edit_forms line other q) [
        | inl b ↦ absurd (apart line b.bytes a.bytes b.spelled a.spelled)
        | inr b ↦ b.is ∙ deletion_same a.bytes a.par b.par a.from b.from a.to b.to a.parts
            (subst (λ (bytes : List ℕ). IsDeletion bytes b.par b.from b.to) (append_cancel_left (codes "delete ") b.bytes a.bytes (sym b.spelled ∙ a.spelled)) b.parts) ∙ sym a.is
      ]
    ]

-- a line that is neither an insertion nor a deletion asks for no edit
pub no_edit : (line : List ℕ) → ((bytes : List ℕ) → line ≡ codes "insert " ++ bytes → ⊥) → ((bytes : List ℕ) → line ≡ codes "delete " ++ bytes → ⊥) → (edit : EditOp) → IsEditLine line edit → ⊥
no_edit line p q edit h = elim (edit_forms line edit h) [ inl a ↦ p a.bytes a.spelled | inr a ↦ q a.bytes a.spelled ]

-- bytes that are no insertion of a text that is spelled ask for no edit behind `insert `
pub no_insertion : (bytes : List ℕ) → ((par at : ℕ) (inside text : List ℕ) → IsInsertion bytes par at inside → SpellsLineText inside text → ⊥) → (edit : EditOp) → IsEditLine (codes "insert " ++ bytes) edit → ⊥
no_insertion bytes none edit h =
    elim (edit_forms (codes "insert " ++ bytes) edit h) [
      | inl a ↦ none a.par a.at a.inside a.text (subst (λ (b : List ℕ). IsInsertion b a.par a.at a.inside) (append_cancel_left (codes "insert ") a.bytes bytes (sym a.spelled)) a.parts) a.spells
      | inr a ↦ apart (codes "insert " ++ bytes) bytes a.bytes refl a.spelled
    ]

-- nor do those whose quoted bytes spell no text
pub no_spelled : (bytes inside : List ℕ) (par at : ℕ) → IsInsertion bytes par at inside → ((text : List ℕ) → SpellsLineText inside text → ⊥) → (edit : EditOp) → IsEditLine (codes "insert " ++ bytes) edit → ⊥
no_spelled bytes inside par at parts none edit h =
    no_insertion bytes
    (λ here there within text h spells.
    let numbers = numbers_same bytes h.0 parts.0 h.1 parts.1 here par there at h.2 h.3 parts.2 parts.3 in
    let same = quoted_same parts.1 within inside (subst (λ (b : List ℕ). IsQuoted b within) numbers.2 h.4) parts.4 in
    none text (subst (λ (b : List ℕ). SpellsLineText b text) same spells))
    edit h

-- bytes that are no deletion ask for no edit behind `delete `
pub no_deletion : (bytes : List ℕ) → ((par from to : ℕ) → IsDeletion bytes par from to → ⊥) → (edit : EditOp) → IsEditLine (codes "delete " ++ bytes) edit → ⊥
no_deletion bytes none edit h =
    elim (edit_forms (codes "delete " ++ bytes) edit h) [
      | inl a ↦ apart (codes "delete " ++ bytes) a.bytes bytes a.spelled refl
      | inr a ↦ none a.par a.from a.to (subst (λ (b : List ℕ). IsDeletion b a.par a.from a.to) (append_cancel_left (codes "delete ") a.bytes bytes (sym a.spelled)) a.parts)
    ]

pub group_forms : (line : List ℕ) (edits : List EditOp) → IsGroupOfOne line edits → (edit : EditOp) × (edits ≡ edit ∷ []) × IsEditLine line edit
group_forms line [] h = absurd h
group_forms line (edit ∷ []) h = (edit, refl, h)
group_forms line (edit ∷ other ∷ edits) h = absurd h

pub group_same : (line : List ℕ) (edits others : List EditOp) → IsGroupOfOne line edits → IsGroupOfOne line others → others ≡ edits
group_same line edits others p q =
    let a = group_forms line edits p in
    let b = group_forms line others q in
    b.1 ∙ ap (λ (edit : EditOp). edit ∷ []) (edit_same line a.0 b.0 a.2 b.2) ∙ sym a.1

-- bytes that go on behind their first number with no number are no insertion and no deletion
pub no_place : (bytes after inside : List ℕ) (par here at : ℕ) → IsNumberThen bytes par after → ((number : ℕ) (rest : List ℕ) → IsNumberThen after number rest → ⊥) → IsInsertion bytes here at inside → ⊥
no_place bytes after inside par here at first none h =
    let moved = subst (λ (b : List ℕ). IsNumberThen b at h.1) (number_then_same bytes h.0 after here par h.2 first).1 h.3 in
    none at h.1 moved

pub no_range : (bytes after : List ℕ) (par here from to : ℕ) → IsNumberThen bytes par after → ((number : ℕ) (rest : List ℕ) → IsNumberThen after number rest → ⊥) → IsDeletion bytes here from to → ⊥
no_range bytes after par here from to first none h =
    let moved = subst (λ (b : List ℕ). IsNumberThen b from h.1) (number_then_same bytes h.0 after here par h.2 first).1 h.3 in
    none from h.1 moved

-- bytes that go on behind two numbers with nothing in quotes are no insertion
pub no_quotes : (bytes after quoted inside : List ℕ) (par here at there : ℕ) → IsNumberThen bytes par after → IsNumberThen after at quoted → ((other : List ℕ) → IsQuoted quoted other → ⊥) → IsInsertion bytes here there inside → ⊥
no_quotes bytes after quoted inside par here at there first second none h =
    let numbers = numbers_same bytes h.0 after h.1 quoted here par there at h.2 h.3 first second in
    none inside (subst (λ (b : List ℕ). IsQuoted b inside) numbers.2 h.4)

-- bytes that go on behind two numbers with no number are no deletion
pub no_end : (bytes after last : List ℕ) (par here from there to : ℕ) → IsNumberThen bytes par after → IsNumberThen after from last → ((number : ℕ) → IsNumber last number → ⊥) → IsDeletion bytes here there to → ⊥
no_end bytes after last par here from there to first second none h =
    let numbers = numbers_same bytes h.0 after h.1 last here par there from h.2 h.3 first second in
    none to (subst (λ (b : List ℕ). IsNumber b to) numbers.2 h.4)
