-- What is added, one after the other.
use Rattle.std.proofs.Common.{◌≡◌, ℕ, ◌+◌, ◌-◌, Bool, List, [], ◌∷◌, ◌++◌, map, take, length, refl, sym, ap, ap₂, ◌∙◌, append_assoc, append-nil, arith, subst, get_or, ◌<◌}
use Rattle.std.proofs.Math.Seq.{take-append_seam}
use Rattle.std.proofs.lemmas.List.{map-append, map_more, length-map, length-append}
use Rattle.std.specs.List.{flat_map}
use Rattle.doc_model.specs.declared.block.Block.{Block}
use Rattle.load_model.specs.Blocks as blocks
use Rattle.load_model.specs.Blocks.{no_blocks, joined_blocks, blocks_alone, blocks_with}
use Rattle.load_model.specs.Left.{Left, both, nothing, all_of, only_elements}
use Rattle.element_parts.specs.Shown.{shown}
use Rattle.element_parts.specs.declared.left.LeftOut.{LeftOut}
use Rattle.read_blocks.specs.declared.read.ReadBlocks.{ReadBlocks}
use Rattle.read_blocks.specs.declared.read.ReadSource.{ReadSource}
use Rattle.read_blocks.specs.declared.read.ReadDeclarations.{ReadDeclarations}
use Rattle.read_blocks.specs.Kept.{kept_block}
use Rattle.read_blocks.specs.Shown.{shown_source, shown_declarations}
use Rattle.read_blocks.specs.Adds.{Adds, AreBlocks, joined_with}
use Rattle.block_parts.proofs.LeftLemmas.{both_assoc, both_none, none_both, all_first, all_joined, left_same}

-- one more behind
pub flat_behind : {X Y : Type 0} (f : X → List Y) (xs : List X) (x : X) → flat_map f (xs ++ x ∷ []) ≡ flat_map f xs ++ f x
flat_behind f [] x = append-nil (f x)
flat_behind f (y ∷ xs) x = ap (λ more. f y ++ more) (flat_behind f xs x) ∙ sym (append_assoc (f y) (flat_map f xs) (f x))

pub all_behind : {X : Type 0} (f : X → Left) (xs : List X) (x : X) → all_of (map f (xs ++ x ∷ [])) ≡ both (all_of (map f xs)) (f x)
all_behind f xs x = ap all_of (map-append f xs (x ∷ [])) ∙ all_joined (map f xs) (f x ∷ []) ∙ ap (both (all_of (map f xs))) (none_both (f x))

pub next_behind : {X Y : Type 0} (f : X → Y) (xs : List X) (i : ℕ) (x : X) → i < length xs → x ≡ get_or xs i x → map f (take (i + 1) xs) ≡ map f (take i xs) ++ f x ∷ []
next_behind f xs i x inside is = map_more f xs i x inside ∙ ap (λ one. map f (take i xs) ++ f one ∷ []) (sym is)

behind : {X Y : Type 0} (f : X → Y) (first second third : List Y) (xs ys : List X) → second ≡ first ++ map f xs → third ≡ second ++ map f ys → third ≡ first ++ map f (xs ++ ys)
behind f first second third xs ys e g =
    g ∙ ap (λ front. front ++ map f ys) e ∙ append_assoc first (map f xs) (map f ys) ∙ ap (λ more. first ++ more) (sym (map-append f xs ys))

module _ (in_note : Bool) where
  pub adds_then : (first second third : ReadBlocks) (one two : blocks.ReadBlocks) → Adds in_note first second one → Adds in_note second third two → Adds in_note first third (joined_with one two)
  adds_then first second third one two e g = record {
    blocks_are = behind (kept_block in_note) first.blocks.items second.blocks.items third.blocks.items one.blocks two.blocks e.blocks_are g.blocks_are;
    sources_are = behind shown_source first.sources.items second.sources.items third.sources.items one.sources two.sources e.sources_are g.sources_are;
    declarations_are = behind shown_declarations first.declarations.items second.declarations.items third.declarations.items one.declarations two.declarations e.declarations_are g.declarations_are;
    left_is = λ left is. g.left_is (both left one.left) (e.left_is left is) ∙ ap shown (both_assoc left one.left two.left);
  }

  pub adds_same : (old new : ReadBlocks) (more other : blocks.ReadBlocks) → more ≡ other → Adds in_note old new more → Adds in_note old new other
  adds_same old new more other e adds = subst (Adds in_note old new) e adds

  pub adds_none : (all : ReadBlocks) → Adds in_note all all (no_blocks nothing)
  adds_none all = record {
    blocks_are = sym (append-nil all.blocks.items);
    sources_are = sym (append-nil all.sources.items);
    declarations_are = sym (append-nil all.declarations.items);
    left_is = λ left is. is ∙ ap shown (sym (both_none left));
  }

  -- what is added to nothing
  pub from_none : (none read : ReadBlocks) (all : blocks.ReadBlocks) → AreBlocks in_note none (no_blocks nothing) → Adds in_note none read all → AreBlocks in_note read all
  from_none none read all are adds = record {
    blocks_are = adds.blocks_are ∙ ap (λ (front : List Block). front ++ map (kept_block in_note) all.blocks) are.blocks_are;
    sources_are = adds.sources_are ∙ ap (λ (front : List ReadSource). front ++ map shown_source all.sources) are.sources_are;
    declarations_are = adds.declarations_are ∙ ap (λ (front : List ReadDeclarations). front ++ map shown_declarations all.declarations) are.declarations_are;
    left_is = adds.left_is nothing are.left_is ∙ ap shown (none_both all.left);
  }

abbrev left_instead : blocks.ReadBlocks → Left → blocks.ReadBlocks
left_instead read left = record read { left = left }

abbrev of_parts : List Block → List blocks.ReadSource → List blocks.ReadDeclarations → Left → blocks.ReadBlocks
of_parts all sources declarations left = record { blocks = all; sources = sources; declarations = declarations; left = left }

pub blocks_same : (one other : blocks.ReadBlocks) → one.blocks ≡ other.blocks → one.sources ≡ other.sources → one.declarations ≡ other.declarations → one.left ≡ other.left → one ≡ other
blocks_same one other b s d l =
    ap₂ (λ (all : List Block) (sources : List blocks.ReadSource). of_parts all sources one.declarations one.left) b s ∙ ap₂ (λ (declarations : List blocks.ReadDeclarations) (left : Left). of_parts other.blocks other.sources declarations left) d l

-- what is read of one more part in front
pub joined_first : (part : blocks.ReadBlocks) (parts : List blocks.ReadBlocks) → joined_blocks (part ∷ parts) ≡ joined_with part (joined_blocks parts)
joined_first part parts = ap (left_instead (joined_blocks (part ∷ parts))) (all_first part.left (map (λ (one : blocks.ReadBlocks). one.left) parts))

-- what is read with one more part behind
pub joined_behind : (parts : List blocks.ReadBlocks) (part : blocks.ReadBlocks) → joined_blocks (parts ++ part ∷ []) ≡ joined_with (joined_blocks parts) part
joined_behind parts part = blocks_same _ _ (flat_behind (λ (one : blocks.ReadBlocks). one.blocks) parts part) (flat_behind (λ (one : blocks.ReadBlocks). one.sources) parts part)
    (flat_behind (λ (one : blocks.ReadBlocks). one.declarations) parts part) (all_behind (λ (one : blocks.ReadBlocks). one.left) parts part)

-- the first ones of two lists
taken : {X Y : Type 0} (f : X → Y) (old all : List Y) (xs : List X) (count : ℕ) → all ≡ old ++ map f xs → count ≡ length old → take count all ≡ old ++ []
taken f old all xs count e c = ap₂ (λ n ys. take n ys) c e ∙ take-append_seam old (map f xs) ∙ sym (append-nil old)

more_by : {X Y : Type 0} (f : X → Y) (old all : List Y) (xs : List X) (count : ℕ) → all ≡ old ++ map f xs → count ≡ length old → length all - count ≡ length xs
more_by f old all xs count e c = let a : length all ≡ length old + length xs = ap length e ∙ length-append old (map f xs) ∙ ap (λ n. length old + n) (length-map xs f) in omega (arith, a, c)

-- sources and declarations that are dropped behind the first ones
pub dropped : (in_note : Bool) (old all : ReadBlocks) (more : blocks.ReadBlocks) (sources declarations : ℕ) (now : ReadBlocks) → Adds in_note old all more → sources ≡ length old.sources.items → declarations ≡ length old.declarations.items
    → now.blocks.items ≡ all.blocks.items → now.sources.items ≡ take sources all.sources.items → now.declarations.items ≡ take declarations all.declarations.items
    → ((left : Left) → all.left ≡ shown left → now.left ≡ shown (both (both left (only_elements (length all.declarations.items - declarations))) (only_elements (length all.sources.items - sources))))
    → Adds in_note old now (blocks_alone more)
dropped in_note old all more sources declarations now adds s d b ss ds l = record {
  blocks_are = b ∙ adds.blocks_are;
  sources_are = ss ∙ taken shown_source old.sources.items all.sources.items more.sources sources adds.sources_are s;
  declarations_are = ds ∙ taken shown_declarations old.declarations.items all.declarations.items more.declarations declarations adds.declarations_are d;
  left_is = λ left is. l (both left more.left) (adds.left_is left is)
      ∙ ap₂ (λ (m n : ℕ). shown (both (both (both left more.left) (only_elements m)) (only_elements n))) (more_by shown_declarations old.declarations.items all.declarations.items more.declarations declarations adds.declarations_are d)
      (more_by shown_source old.sources.items all.sources.items more.sources sources adds.sources_are s)
      ∙ ap shown (left_same (both (both (both left more.left) (only_elements (length more.declarations))) (only_elements (length more.sources))) (both left (blocks_alone more).left) (omega arith) (omega arith));
}
