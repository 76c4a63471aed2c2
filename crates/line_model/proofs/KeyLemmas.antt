-- The test whether two keys are the same decides whether they are equal.
use Rattle.std.proofs.Common.{◌≡◌, ℕ, Bool, true, false, List, [], ◌∷◌, refl, ap, sym, ◌∙◌}
use Rattle.std.specs.Prelude.{ℤ, ◌==◌, not, ◌&&◌}
use Rattle.std.specs.Bool.{Decides}
use Rattle.std.specs.Ordering.{int_eq}
use Rattle.std.specs.Str.{bytes_eq}
use Rattle.std.specs.Cmp.Lexicographic.{bytes_decides}
use Rattle.std.proofs.lemmas.Bool.Decides.{Decides-and, Decides-like, Decides-eqb, Decides-int_eq}
use Rattle.doc_model.specs.declared.style.Align.{Align}
use Rattle.doc_model.specs.declared.style.Align.TheVariants.{Start, Center, End}
use Rattle.doc_model.specs.declared.tabs.TabStop.{TabStop}
use Rattle.line_model.specs.declared.key.Key.{Key}
use Rattle.line_model.specs.Keys.{is_same_key}

-- the tests of the parts, as the definition has them
abbrev is_same_truth : Bool → Bool → Bool
is_same_truth true truth = truth
is_same_truth false truth = not truth

abbrev is_same_align : Align → Align → Bool
is_same_align Start Start = true
is_same_align Center Center = true
is_same_align End End = true
is_same_align _ _ = false

abbrev are_same_tabs : List TabStop → List TabStop → Bool
are_same_tabs [] [] = true
are_same_tabs (tab ∷ tabs) (other ∷ others) = (tab.position == other.position) && is_same_truth tab.right other.right && are_same_tabs tabs others
are_same_tabs _ _ = false

truths : (a b : Bool) → Decides (is_same_truth a b) (a ≡ b)
truths true true = (λ h. refl, λ h. refl)
truths true false = (λ h. sym h, λ h. sym h)
truths false true = (λ h. h, λ h. h)
truths false false = (λ h. refl, λ h. refl)

aligns : (a b : Align) → Decides (is_same_align a b) (a ≡ b)
aligns Start Start = (λ h. refl, λ h. refl)
aligns Start Center = (λ h. cc, λ h. cc)
aligns Start End = (λ h. cc, λ h. cc)
aligns Center Start = (λ h. cc, λ h. cc)
aligns Center Center = (λ h. refl, λ h. refl)
aligns Center End = (λ h. cc, λ h. cc)
aligns End Start = (λ h. cc, λ h. cc)
aligns End Center = (λ h. cc, λ h. cc)
aligns End End = (λ h. refl, λ h. refl)

tab_of : (tab other : TabStop) → tab.position ≡ other.position → tab.right ≡ other.right → tab ≡ other
tab_of tab other p r = ap (λ (n : ℕ). record tab { position = n }) p ∙ ap (λ (b : Bool). record other { right = b }) r

tabs_decide : (tabs others : List TabStop) → Decides (are_same_tabs tabs others) (tabs ≡ others)
tabs_decide [] [] = (λ h. refl, λ h. refl)
tabs_decide [] (other ∷ others) = (λ h. cc, λ h. cc)
tabs_decide (tab ∷ tabs) [] = (λ h. cc, λ h. cc)
tabs_decide (tab ∷ tabs) (other ∷ others) =
    Decides-like (are_same_tabs (tab ∷ tabs) (other ∷ others))
    (λ h. joined h.0.0 h.0.1 h.1)
    (λ e. let first : tab ≡ other = cc in ((ap (λ (t : TabStop). t.position) first, ap (λ (t : TabStop). t.right) first), cc))
    (Decides-and ((tab.position == other.position) && is_same_truth tab.right other.right) (are_same_tabs tabs others)
    (Decides-and ((tab.position == other.position)) (is_same_truth tab.right other.right) (Decides-eqb tab.position other.position) (truths tab.right other.right))
    (tabs_decide tabs others)) where
      joined : tab.position ≡ other.position → tab.right ≡ other.right → tabs ≡ others → tab ∷ tabs ≡ other ∷ others
      joined p r e = ap (λ (t : TabStop). t ∷ tabs) (tab_of tab other p r) ∙ ap (λ (ts : List TabStop). other ∷ ts) e

key_of_parts : (key other : Key) → key.hidden ≡ other.hidden → key.text ≡ other.text → key.notes ≡ other.notes → key.columns ≡ other.columns → key.left ≡ other.left
    → key.right ≡ other.right → key.indent ≡ other.indent → key.level ≡ other.level → key.align ≡ other.align → key.tabs ≡ other.tabs → key ≡ other
key_of_parts key other hidden text notes columns left right indent level align tabs =
    ap (λ (x : Bool). record key { hidden = x }) hidden
    ∙ ap (λ (x : List ℕ). record key { hidden = other.hidden; text = x }) text
    ∙ ap (λ (x : List ℕ). record key { hidden = other.hidden; text = other.text; notes = x }) notes
    ∙ ap (λ (x : ℕ). record key { hidden = other.hidden; text = other.text; notes = other.notes; columns = x }) columns
    ∙ ap (λ (x : ℤ). record other { left = x; right = key.right; indent = key.indent; level = key.level; align = key.align; tabs = key.tabs }) left
    ∙ ap (λ (x : ℤ). record other { right = x; indent = key.indent; level = key.level; align = key.align; tabs = key.tabs }) right
    ∙ ap (λ (x : ℤ). record other { indent = x; level = key.level; align = key.align; tabs = key.tabs }) indent
    ∙ ap (λ (x : ℕ). record other { level = x; align = key.align; tabs = key.tabs }) level
    ∙ ap (λ (x : Align). record other { align = x; tabs = key.tabs }) align
    ∙ ap (λ (x : List TabStop). record other { tabs = x }) tabs

-- two keys are the same exactly where they are equal
pub is_same_key-Decides : (key other : Key) → Decides (is_same_key key other) (key ≡ other)
is_same_key-Decides key other =
    Decides-like (is_same_key key other)
    (λ h. key_of_parts key other h.0.0.0.0.0.0.0.0.0 h.0.0.0.0.0.0.0.0.1 h.0.0.0.0.0.0.0.1 h.0.0.0.0.0.0.1 h.0.0.0.0.0.1 h.0.0.0.0.1 h.0.0.0.1 h.0.0.1 h.0.1 h.1)
    (λ e. (
      (
        (
          (
            (
              ((((ap (λ (k : Key). k.hidden) e, ap (λ (k : Key). k.text) e), ap (λ (k : Key). k.notes) e), ap (λ (k : Key). k.columns) e), ap (λ (k : Key). k.left) e),
              ap (λ (k : Key). k.right) e,
            ),
            ap (λ (k : Key). k.indent) e,
          ),
          ap (λ (k : Key). k.level) e,
        ),
        ap (λ (k : Key). k.align) e,
      ),
      ap (λ (k : Key). k.tabs) e,
    ))
    (Decides-and _ (are_same_tabs key.tabs other.tabs)
    (Decides-and _ (is_same_align key.align other.align)
    (Decides-and _ (key.level == other.level)
    (Decides-and _ (int_eq key.indent other.indent)
    (Decides-and _ (int_eq key.right other.right)
    (Decides-and _ (int_eq key.left other.left)
    (Decides-and _ (key.columns == other.columns)
    (Decides-and _ (bytes_eq key.notes other.notes)
    (Decides-and (is_same_truth key.hidden other.hidden) (bytes_eq key.text other.text) (truths key.hidden other.hidden) (bytes_decides key.text other.text))
    (bytes_decides key.notes other.notes))
    (Decides-eqb key.columns other.columns))
    (Decides-int_eq key.left other.left))
    (Decides-int_eq key.right other.right))
    (Decides-int_eq key.indent other.indent))
    (Decides-eqb key.level other.level))
    (aligns key.align other.align))
    (tabs_decide key.tabs other.tabs))

-- a key is the same as itself
pub is_same_key-refl : (key : Key) → is_same_key key key ≡ true
is_same_key-refl key = (is_same_key-Decides key key).1 refl

-- keys that are the same are equal
pub is_same_key-true : (key other : Key) → is_same_key key other ≡ true → key ≡ other
is_same_key-true key other same = (is_same_key-Decides key other).0 same
