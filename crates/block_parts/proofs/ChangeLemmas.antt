-- Blocks of which one has its list place changed.
use Rattle.std.proofs.Common.{◌≡◌, ◌<◌, ◌≤◌, ℕ, zero, suc, Bool, true, false, List, [], ◌∷◌, ◌++◌, map, length, refl, sym, ap, ◌∙◌, arith, subst, get_or, set}
use Rattle.std.specs.Prelude.{remove}
use Rattle.std.proofs.lemmas.Bool.{false≢true}
use Rattle.doc_model.specs.declared.block.Block.{Block, out-Block, roll-Block}
use Rattle.doc_model.specs.declared.block.Block.TheOpen.{Block-F}
use Rattle.doc_model.specs.declared.block.Block.TheViews.{out-roll-Block, roll-out-Block}
use Rattle.doc_model.specs.declared.block.Section.{Section}
use Rattle.doc_model.specs.declared.paragraph.ListPos.{ListPos}
use Rattle.doc_model.specs.declared.paragraph.Par.{Par}
use Rattle.load_model.specs.Blocks.{as_block, with_place, paragraphs_of}
use Rattle.block_parts.specs.Begins.{changed_at, changed_block, is_section}

abbrev in_front : (ListPos → ListPos) → Block → List Block
in_front change block = map (λ par. as_block (with_place change par)) (paragraphs_of (block ∷ []))

pub changed_beyond : (change : ListPos → ListPos) (at : ℕ) (blocks : List Block) → length blocks ≤ at → blocks ≡ changed_at change at blocks
changed_beyond change at [] l = refl
changed_beyond change zero (block ∷ blocks) l = absurd (omega (arith, l))
changed_beyond change (suc at) (block ∷ blocks) l = ap (λ (more : List Block). block ∷ more) (changed_beyond change at blocks (omega (arith, l)))

par_isnt : (par : Par) → is_section (roll-Block (Block-F.Par par)) ≡ false
par_isnt par = simp out-roll-Block

section_is : (section : Section) → is_section (roll-Block (Block-F.Section section)) ≡ true
section_is section = simp out-roll-Block

section_kind : (change : ListPos → ListPos) (x : Block-F Block Section) → is_section (roll-Block x) ≡ true → in_front change (roll-Block x) ≡ []
section_kind change (Block-F.Par par) e = absurd (false≢true (sym (par_isnt par) ∙ e))
section_kind change (Block-F.Section section) e = simp out-roll-Block

par_kind : (change : ListPos → ListPos) (x : Block-F Block Section) → is_section (roll-Block x) ≡ false → in_front change (roll-Block x) ≡ changed_block change (roll-Block x) ∷ []
par_kind change (Block-F.Par par) e = simp out-roll-Block
par_kind change (Block-F.Section section) e = absurd (false≢true (sym e ∙ section_is section))

section_front : (change : ListPos → ListPos) (block : Block) → is_section block ≡ true → in_front change block ≡ []
section_front change block e = subst (λ (one : Block). is_section one ≡ true → in_front change one ≡ []) (roll-out-Block block) (section_kind change (out-Block block)) e

par_front : (change : ListPos → ListPos) (block : Block) → is_section block ≡ false → in_front change block ≡ changed_block change block ∷ []
par_front change block e = subst (λ (one : Block). is_section one ≡ false → in_front change one ≡ changed_block change one ∷ []) (roll-out-Block block) (par_kind change (out-Block block)) e

-- a section goes
pub section_goes : (change : ListPos → ListPos) (at : ℕ) (blocks : List Block) (block : Block) → at < length blocks → block ≡ get_or blocks at block → is_section block ≡ true → remove blocks at ≡ changed_at change at blocks
section_goes change at [] block l is e = absurd (omega (arith, l))
section_goes change zero (first ∷ blocks) block l is e = ap (λ (front : List Block). front ++ blocks) (sym (section_front change first (ap is_section (sym is) ∙ e)))
section_goes change (suc at) (first ∷ blocks) block l is e = ap (λ (more : List Block). first ∷ more) (section_goes change at blocks block (omega (arith, l)) is e)

-- a paragraph is changed
pub par_changes : (change : ListPos → ListPos) (at : ℕ) (blocks : List Block) (block : Block) → at < length blocks → block ≡ get_or blocks at block → is_section block ≡ false → set blocks at (changed_block change block) ≡ changed_at change at blocks
par_changes change at [] block l is e = absurd (omega (arith, l))
par_changes change zero (first ∷ blocks) block l is e =
    ap (λ (one : Block). changed_block change one ∷ blocks) is ∙ ap (λ (front : List Block). front ++ blocks) (sym (par_front change first (ap is_section (sym is) ∙ e)))
par_changes change (suc at) (first ∷ blocks) block l is e = ap (λ (more : List Block). first ∷ more) (par_changes change at blocks block (omega (arith, l)) is e)

-- an item that is found twice
pub same_item : {X : Type 0} (xs : List X) (at : ℕ) (x y : X) → at < length xs → x ≡ get_or xs at x → y ≡ get_or xs at y → x ≡ y
same_item [] at x y l e f = absurd (omega (arith, l))
same_item (z ∷ zs) zero x y l e f = e ∙ sym f
same_item (z ∷ zs) (suc at) x y l e f = same_item zs at x y (omega (arith, l)) e f
