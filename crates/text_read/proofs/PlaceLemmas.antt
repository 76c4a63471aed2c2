-- Where paragraphs stand in lists.
use Rattle.std.proofs.Common.{◌≡◌, ◌<◌, ℕ, ◌+◌, ◌==◌, zero, suc, Bool, true, false, ◌||◌, cond, List, [], ◌∷◌, ◌++◌, map, length, refl, sym, ap, ap₂, ◌∙◌, arith, Option, Some, None, eq-eqb, subst}
use Rattle.std.proofs.lemmas.Bool.{ne_eqb}
use Rattle.std.specs.List.{AllByRecursion as Each}
use Rattle.std.specs.Option.{option_map, option_map_or, option_or}
use Rattle.doc_model.specs.declared.block.Block.{Block, out-Block, roll-Block}
use Rattle.doc_model.specs.declared.block.Block.TheOpen.{Block-F}
use Rattle.doc_model.specs.declared.block.Block.TheViews.{out-roll-Block, roll-out-Block}
use Rattle.doc_model.specs.declared.block.Section.{Section}
use Rattle.doc_model.specs.declared.paragraph.ListPos.{ListPos}
use Rattle.doc_model.specs.declared.paragraph.Par.{Par, out-Par, roll-Par}
use Rattle.doc_model.specs.declared.paragraph.What.{What}
use Rattle.doc_model.specs.declared.paragraph.What.TheOpen.{Par-F}
use Rattle.doc_model.specs.declared.paragraph.What.TheViews.{out-roll-Par}
use Rattle.doc_model.specs.declared.paragraph.Note.{Note}
use Rattle.doc_model.specs.declared.paragraph.Item.{Item}
use Rattle.load_model.specs.declared.element.Element.{Element}
use Rattle.load_model.specs.Blocks as blocks
use Rattle.load_model.specs.Blocks.{as_block, first_changed, is_directly_in, list_place, paragraphs_of, with_place}
use Rattle.block_parts.specs.Begins.{begun}
use Rattle.block_parts.specs.Values.{paragraph_by}
use Rattle.block_parts.specs.declared.begins.Begins.{Begins}
use Rattle.block_parts.specs.declared.begins.Begins.TheVariants as begins
use Rattle.read_blocks.specs.First.{behind, first_place}
use Rattle.read_blocks.proofs.BeginLemmas.{front_par, front_section, in_front}

-- the first place among two lists
none_from : (found : Option ℕ) → found ≡ option_map (λ at. 0 + at) found
none_from None = refl
none_from (Some at) = let e : at ≡ 0 + at = omega arith in ap (λ (n : ℕ). Some n) e

one_from : (count : ℕ) (found : Option ℕ) → option_map suc (option_map (λ at. count + at) found) ≡ option_map (λ at. suc count + at) found
one_from count None = refl
one_from count (Some at) = let e : suc (count + at) ≡ suc count + at = omega arith in ap (λ (n : ℕ). Some n) e

or_from : (one other : Option ℕ) → option_map suc (option_or one other) ≡ option_or (option_map suc one) (option_map suc other)
or_from None other = refl
or_from (Some at) other = refl

joined_step : (b : Bool) (one other : Option ℕ) → cond b (Some 0) (option_or one other) ≡ option_or (cond b (Some 0) one) other
joined_step true one other = refl
joined_step false one other = refl

pub first_joined : (test : Block → Bool) (xs ys : List Block) → first_place test (xs ++ ys) ≡ option_or (first_place test xs) (behind (length xs) (first_place test ys))
first_joined test [] ys = none_from (first_place test ys)
first_joined test (x ∷ xs) ys =
    ap (λ (found : Option ℕ). cond (test x) (Some 0) (option_map suc found)) (first_joined test xs ys)
    ∙ ap (λ (found : Option ℕ). cond (test x) (Some 0) found) (or_from (first_place test xs) (behind (length xs) (first_place test ys)))
    ∙ joined_step (test x) (option_map suc (first_place test xs)) (option_map suc (behind (length xs) (first_place test ys)))
    ∙ ap (option_or (cond (test x) (Some 0) (option_map suc (first_place test xs)))) (one_from (length xs) (first_place test ys))

-- both behind so many
pub behind_or : (count more : ℕ) (one other : Option ℕ) → behind count (option_or one (behind more other)) ≡ option_or (behind count one) (behind (count + more) other)
behind_or count more (Some at) other = refl
behind_or count more None None = refl
behind_or count more None (Some at) = let e : count + (more + at) ≡ (count + more) + at = omega arith in ap (λ (n : ℕ). Some n) e

pub each_joined : {X : Type 0} (P : X → Type 0) (xs ys : List X) → Each P xs → Each P ys → Each P (xs ++ ys)
each_joined P [] ys one other = other
each_joined P (x ∷ xs) ys one other = (one.0, each_joined P xs ys one.1 other)

step_none : (b : Bool) (found : Option ℕ) → b ≡ false → found ≡ None → cond b (Some 0) (option_map suc found) ≡ None
step_none b found e f = ap₂ (λ (c : Bool) (one : Option ℕ). cond c (Some 0) (option_map suc one)) e f

-- none where no block passes
pub none_first : (test : Block → Bool) (xs : List Block) → Each (λ block. test block ≡ false) xs → first_place test xs ≡ None
none_first test [] each = refl
none_first test (x ∷ xs) each = step_none (test x) (first_place test xs) each.0 (none_first test xs each.1)

-- a paragraph by its list place
abbrev pub stands_at : ℕ → Option ListPos → Bool
stands_at level list = option_map_or (λ (place : ListPos). place.level == level) list false

direct_par : (level : ℕ) (par : Par) → is_directly_in level (as_block par) ≡ (stands_at level (out-Par par).list || false)
direct_par level par = simp out-roll-Block

pub direct_section : (level : ℕ) (section : Section) → is_directly_in level (roll-Block (Block-F.Section section)) ≡ false
direct_section level section = simp out-roll-Block

direct_element : (level : ℕ) (styles : List (List ℕ)) (list : Option ListPos) (heading : ℕ) (element : Element) (items : List Item)
    → is_directly_in level (as_block (paragraph_by styles list heading element items)) ≡ (stands_at level list || false)
direct_element level styles list heading element items =
    direct_par level (paragraph_by styles list heading element items) ∙ ap (λ (layer : Par-F What Item Note Par). stands_at level layer.list || false) (out-roll-Par _)

abbrev place_by : Bool → blocks.Lists → Option ListPos
place_by outside at = cond outside None (Some (record { style = at.style; level = at.level; item = false; fresh = false }))

outside_stands : (level : ℕ) (at : blocks.Lists) → (at.level == 0) ≡ true → stands_at level (list_place at) ≡ false
outside_stands level at e = ap (λ b. stands_at level (place_by b at)) e

inside_stands : (level : ℕ) (at : blocks.Lists) → (at.level == 0) ≡ false → stands_at level (list_place at) ≡ (at.level == level)
inside_stands level at e = ap (λ b. stands_at level (place_by b at)) e

-- one paragraph
module _ (at : blocks.Lists) (styles : List (List ℕ)) (heading : ℕ) (element : Element) (items : List Item) where
  abbrev pub block_here : Block
  block_here = as_block (paragraph_by styles (list_place at) heading element items)

  direct : (level : ℕ) (b : Bool) → stands_at level (list_place at) ≡ b → is_directly_in level block_here ≡ b
  direct level b e = direct_element level styles (list_place at) heading element items ∙ ap (λ one. one || false) e ∙ or_none b where
    or_none : (b : Bool) → (b || false) ≡ b
    or_none true = refl
    or_none false = refl

  pub first_outside : at.level ≡ 0 → first_place (is_directly_in at.level) (block_here ∷ []) ≡ None
  first_outside e = ap (λ (b : Bool). cond b (Some 0) None) (direct at.level false (outside_stands at.level at (eq-eqb at.level 0 e)))

  pub first_inside : 0 < at.level → first_place (is_directly_in at.level) (block_here ∷ []) ≡ Some 0
  first_inside l = ap (λ (b : Bool). cond b (Some 0) None) (direct at.level true (inside_stands at.level at (ne_eqb at.level 0 (λ e. absurd (omega (arith, l, e)))) ∙ eq-eqb at.level at.level refl))

  pub none_within : (level : ℕ) → level < at.level → Each (λ block. is_directly_in level block ≡ false) (block_here ∷ [])
  none_within level l = (direct level false (inside_stands level at (ne_eqb at.level 0 (λ e. absurd (omega (arith, l, e)))) ∙ ne_eqb at.level level (λ e. absurd (omega (arith, l, e)))), tt)

-- blocks of which the first that passes a test begins something
place_stays : (level : ℕ) (what : Begins) (list : Option ListPos) → stands_at level (option_map (begun what) list) ≡ stands_at level list
place_stays level what None = refl
place_stays level begins.Item (Some place) = refl
place_stays level begins.Counting (Some place) = refl

par_stays : (level : ℕ) (what : Begins) (par : Par) → is_directly_in level (as_block (with_place (begun what) par)) ≡ is_directly_in level (as_block par)
par_stays level what par =
    direct_par level (with_place (begun what) par) ∙ ap (λ (layer : Par-F What Item Note Par). stands_at level layer.list || false) (out-roll-Par _)
    ∙ ap (λ b. b || false) (place_stays level what (out-Par par).list) ∙ sym (direct_par level par)

kind_stays : (level : ℕ) (what : Begins) (x : Block-F Block Section) → is_directly_in level (roll-Block x) ≡ false → Each (λ other. is_directly_in level other ≡ false) (in_front (begun what) (roll-Block x))
kind_stays level what (Block-F.Par par) e = subst (Each (λ other. is_directly_in level other ≡ false)) (sym (front_par (begun what) par)) (par_stays level what par ∙ e, tt)
kind_stays level what (Block-F.Section section) e = subst (Each (λ other. is_directly_in level other ≡ false)) (sym (front_section (begun what) section)) tt

front_stays : (level : ℕ) (what : Begins) (block : Block) → is_directly_in level block ≡ false → Each (λ one. is_directly_in level one ≡ false) (map (λ par. as_block (with_place (begun what) par)) (paragraphs_of (block ∷ [])))
front_stays level what block e =
    subst (λ (one : Block). is_directly_in level one ≡ false → Each (λ other. is_directly_in level other ≡ false) (in_front (begun what) one)) (roll-out-Block block) (kind_stays level what (out-Block block)) e

step_stays : (level : ℕ) (b : Bool) (front : List Block) (x : Block) (xs ys : List Block) → Each (λ one. is_directly_in level one ≡ false) front → is_directly_in level x ≡ false → Each (λ one. is_directly_in level one ≡ false) xs
    → Each (λ one. is_directly_in level one ≡ false) ys → Each (λ one. is_directly_in level one ≡ false) (cond b (front ++ xs) (x ∷ ys))
step_stays level true front x xs ys f h e g = each_joined (λ one. is_directly_in level one ≡ false) front xs f e
step_stays level false front x xs ys f h e g = (h, g)

pub changed_stays : (level : ℕ) (what : Begins) (test : Block → Bool) (xs : List Block) → Each (λ one. is_directly_in level one ≡ false) xs → Each (λ one. is_directly_in level one ≡ false) (first_changed test (begun what) xs)
changed_stays level what test [] each = tt
changed_stays level what test (x ∷ xs) each =
    step_stays level (test x) (map (λ par. as_block (with_place (begun what) par)) (paragraphs_of (x ∷ []))) x xs (first_changed test (begun what) xs) (front_stays level what x each.0) each.0 each.1 (changed_stays level what test xs each.1)
