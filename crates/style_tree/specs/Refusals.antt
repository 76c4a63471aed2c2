-- Why a style is not defined, removed or changed.
use Rattle.std.specs.Prelude.{◌≡◌, ◌⊎◌, ℕ, if◌then◌else◌, is_some, List, [], ◌∷◌, Option, Some, None, Result, MatchResult}
use Rattle.doc_model.specs.declared.style.Family.{Family}
use Rattle.doc_model.specs.declared.style.Style.{Style}
use Rattle.style_model.specs.Lineage.{style_named, would_loop}
use Rattle.style_model.specs.Effective.{first_stated}
use Rattle.style_tree.specs.declared.refusal.StyleRefusal.{StyleRefusal}
use Rattle.style_tree.specs.declared.refusal.StyleRefusal.TheVariants.{NoStyle, Taken, StyleLoop, NoMemory}

-- NoStyle where there is no style of this family and name
abbrev pub missing : List Style → Family → List ℕ → Option StyleRefusal
missing styles of name = if is_some (style_named styles of name) then None else Some (NoStyle name)

-- the same of a name that may be none
abbrev pub dangling : List Style → Family → List ℕ → Option StyleRefusal
dangling styles of [] = None
dangling styles of name = missing styles of name

-- NoStyle where a new style has no name
abbrev pub nameless : List ℕ → Option StyleRefusal
nameless [] = Some (NoStyle [])
nameless name = None

-- Taken where there is a style of this family and name
abbrev pub taken : List Style → Family → List ℕ → Option StyleRefusal
taken styles of name = if is_some (style_named styles of name) then Some (Taken name) else None

-- StyleLoop where a style of this family and name would be its own ancestor with this parent
abbrev pub looping : List Style → Family → List ℕ → List ℕ → Option StyleRefusal
looping styles of name parent = if would_loop styles of name parent then Some (StyleLoop name) else None

-- why a style is not defined, the first of these that applies: it has no name, its parent or its next style is missing, its name is taken, or it would be its own ancestor
abbrev pub define_refusal : List Style → Style → Option StyleRefusal
define_refusal styles style = first_stated (nameless style.name ∷ dangling styles style.family style.parent ∷ dangling styles style.family style.next ∷ taken styles style.family style.name ∷ looping styles style.family style.name style.parent ∷ [])

-- why a style does not get another parent: it is missing, the parent is, or it would be its own ancestor
abbrev pub reparent_refusal : List Style → Family → List ℕ → List ℕ → Option StyleRefusal
reparent_refusal styles of name parent = first_stated (missing styles of name ∷ dangling styles of parent ∷ looping styles of name parent ∷ [])

-- what a call answers where this is why it is refused: that, or a value where nothing is. Only want of memory is free
abbrev pub Answers : {X : Type 0} → Result X StyleRefusal → Option StyleRefusal → Type 0
Answers result refusal = MatchResult result (λ value. refusal ≡ None) (λ fault. (fault ≡ NoMemory) ⊎ (refusal ≡ Some fault))
