-- Blocks of which the first that passes a test begins something.
use Rattle.std.proofs.Common.{◌≡◌, ℕ, ◌+◌, zero, suc, Bool, true, false, cond, List, [], ◌∷◌, ◌++◌, map, length, refl, sym, ap, ap₂, ◌∙◌, append_assoc, append-nil, arith, Option, Some, None, Vec, Global}
use Rattle.std.specs.Option.{option_map}
use Rattle.std.proofs.lemmas.List.{map-append}
use Rattle.doc_model.specs.declared.block.Block.{Block, out-Block, roll-Block}
use Rattle.doc_model.specs.declared.block.Block.TheOpen.{Block-F, Section-F}
use Rattle.doc_model.specs.declared.block.Block.TheViews.{roll-out-Block, roll-out-Section, out-roll-Block}
use Rattle.doc_model.specs.declared.block.Section.{Section, out-Section, roll-Section}
use Rattle.doc_model.specs.declared.paragraph.ListPos.{ListPos}
use Rattle.doc_model.specs.declared.paragraph.Par.{Par, out-Par, roll-Par}
use Rattle.doc_model.specs.declared.paragraph.What.TheViews.{out-roll-Par}
use Rattle.load_model.specs.Blocks as blocks
use Rattle.load_model.specs.Blocks.{as_block, with_place, paragraphs_of, first_changed, is_directly_in}
use Rattle.load_model.specs.Loaded.{at_most_ten}
use Rattle.block_parts.specs.Begins.{begun, changed_at}
use Rattle.block_parts.specs.declared.begins.Begins.{Begins}
use Rattle.block_parts.specs.declared.begins.Begins.TheVariants as begins
use Rattle.read_blocks.specs.Adds.{Adds}
use Rattle.read_blocks.specs.declared.read.ReadBlocks.{ReadBlocks}
use Rattle.read_blocks.specs.declared.read.ReadDeclarations.{ReadDeclarations}
use Rattle.read_blocks.specs.declared.read.ReadSource.{ReadSource}
use Rattle.read_blocks.specs.First.{behind, first_place, with_first}
use Rattle.read_blocks.specs.Kept.{kept_block, kept_par}
use Rattle.read_blocks.proofs.KeptLemmas.{par_kept, section_kept}

-- a block behind others
changed_behind : (change : ListPos → ListPos) (xs ys : List Block) (at : ℕ) → changed_at change (length xs + at) (xs ++ ys) ≡ xs ++ changed_at change at ys
changed_behind change [] ys at = let e : 0 + at ≡ at = omega arith in ap (λ n. changed_at change n ys) e
changed_behind change (x ∷ xs) ys at =
    let e : suc (length xs) + at ≡ suc (length xs + at) = omega arith in
    ap (λ n. changed_at change n (x ∷ xs ++ ys)) e ∙ ap (λ (more : List Block). x ∷ more) (changed_behind change xs ys at)

abbrev pub in_front : (ListPos → ListPos) → Block → List Block
in_front change block = map (λ par. as_block (with_place change par)) (paragraphs_of (block ∷ []))

ten_begun : (what : Begins) (place : ListPos) → begun what (at_most_ten place) ≡ at_most_ten (begun what place)
ten_begun begins.Item place = refl
ten_begun begins.Counting place = refl

place_begun : (what : Begins) (list : Option ListPos) → option_map (begun what) (option_map at_most_ten list) ≡ option_map at_most_ten (option_map (begun what) list)
place_begun what None = refl
place_begun what (Some place) = ap (λ (one : ListPos). Some one) (ten_begun what place)

par_begun : (in_note : Bool) (what : Begins) (par : Par) → with_place (begun what) (kept_par in_note par) ≡ kept_par in_note (with_place (begun what) par)
par_begun in_note what par = simp (out-roll-Par, place_begun what (out-Par par).list)

pub front_par : (change : ListPos → ListPos) (par : Par) → in_front change (as_block par) ≡ as_block (with_place change par) ∷ []
front_par change par = simp out-roll-Block

pub front_section : (change : ListPos → ListPos) (section : Section) → in_front change (roll-Block (Block-F.Section section)) ≡ []
front_section change section = simp out-roll-Block

kind_kept : (in_note : Bool) (what : Begins) (x : Block-F Block Section) → in_front (begun what) (kept_block in_note (roll-Block x)) ≡ map (kept_block in_note) (in_front (begun what) (roll-Block x))
kind_kept in_note what (Block-F.Par par) =
    ap (in_front (begun what)) (par_kept in_note par) ∙ front_par (begun what) (kept_par in_note par) ∙ ap (λ one. as_block one ∷ []) (par_begun in_note what par)
    ∙ sym (ap (λ (one : Block). one ∷ []) (par_kept in_note (with_place (begun what) par))) ∙ sym (ap (map (kept_block in_note)) (front_par (begun what) par))
kind_kept in_note what (Block-F.Section section) =
    ap (λ (one : Section). in_front (begun what) (kept_block in_note (roll-Block (Block-F.Section one)))) (sym (roll-out-Section section))
    ∙ ap (in_front (begun what)) (section_kept in_note (out-Section section))
    ∙ front_section (begun what) (roll-Section (record (out-Section section) { blocks = map (kept_block in_note) (out-Section section).blocks }))
    ∙ sym (ap (map (kept_block in_note)) (front_section (begun what) section))

front_kept : (in_note : Bool) (what : Begins) (block : Block) → in_front (begun what) (kept_block in_note block) ≡ map (kept_block in_note) (in_front (begun what) block)
front_kept in_note what block =
    ap (λ (one : Block). in_front (begun what) (kept_block in_note one)) (sym (roll-out-Block block)) ∙ kind_kept in_note what (out-Block block)
    ∙ ap (λ (one : Block). map (kept_block in_note) (in_front (begun what) one)) (roll-out-Block block)

changed_kept : (in_note : Bool) (what : Begins) (at : ℕ) (xs : List Block) → changed_at (begun what) at (map (kept_block in_note) xs) ≡ map (kept_block in_note) (changed_at (begun what) at xs)
changed_kept in_note what at [] = refl
changed_kept in_note what zero (x ∷ xs) =
    ap (λ (front : List Block). front ++ map (kept_block in_note) xs) (front_kept in_note what x) ∙ sym (map-append (kept_block in_note) (in_front (begun what) x) xs)
changed_kept in_note what (suc at) (x ∷ xs) = ap (λ (more : List Block). kept_block in_note x ∷ more) (changed_kept in_note what at xs)

-- the first one by its place
none_step : (b : Bool) (whole : List Block) (x : Block) (xs ys : List Block) (place : Option ℕ) → cond b (Some 0) (option_map suc place) ≡ None → (place ≡ None → ys ≡ xs) → cond b whole (x ∷ ys) ≡ x ∷ xs
none_step true whole x xs ys place e rest = absurd (cc)
none_step false whole x xs ys None e rest = ap (λ (more : List Block). x ∷ more) (rest refl)
none_step false whole x xs ys (Some at) e rest = absurd (cc)

pub first_none : (test : Block → Bool) (change : ListPos → ListPos) (xs : List Block) → first_place test xs ≡ None → first_changed test change xs ≡ xs
first_none test change [] e = refl
first_none test change (x ∷ xs) e = none_step (test x) (in_front change x ++ xs) x xs (first_changed test change xs) (first_place test xs) e (first_none test change xs)

at_step : (b : Bool) (change : ListPos → ListPos) (x : Block) (xs ys : List Block) (place : Option ℕ) (at : ℕ) → cond b (Some 0) (option_map suc place) ≡ Some at → ((n : ℕ) → place ≡ Some n → ys ≡ changed_at change n xs)
    → cond b (in_front change x ++ xs) (x ∷ ys) ≡ changed_at change at (x ∷ xs)
at_step true change x xs ys place at e rest = let same : 0 ≡ at = cc in ap (λ n. changed_at change n (x ∷ xs)) same
at_step false change x xs ys None at e rest = absurd (cc)
at_step false change x xs ys (Some n) at e rest = let same : suc n ≡ at = cc in ap (λ (more : List Block). x ∷ more) (rest n refl) ∙ ap (λ m. changed_at change m (x ∷ xs)) same

pub first_at : (test : Block → Bool) (change : ListPos → ListPos) (xs : List Block) (at : ℕ) → first_place test xs ≡ Some at → first_changed test change xs ≡ changed_at change at xs
first_at test change [] at e = absurd (cc)
first_at test change (x ∷ xs) at e = at_step (test x) change x xs (first_changed test change xs) (first_place test xs) at e (first_at test change xs)

first_of_all : (change : ListPos → ListPos) (xs : List Block) → first_changed (λ block. true) change xs ≡ changed_at change 0 xs
first_of_all change [] = refl
first_of_all change (x ∷ xs) = refl

-- blocks behind others of which one begins something
changed_more : (in_note : Bool) (what : Begins) (old all now more : List Block) (at place : ℕ) → all ≡ old ++ map (kept_block in_note) more → place ≡ length old + at → now ≡ changed_at (begun what) place all
    → now ≡ old ++ map (kept_block in_note) (changed_at (begun what) at more)
changed_more in_note what old all now more at place e p is =
    is ∙ ap₂ (λ (n : ℕ) (xs : List Block). changed_at (begun what) n xs) p e ∙ changed_behind (begun what) old (map (kept_block in_note) more) at ∙ ap (λ (xs : List Block). old ++ xs) (changed_kept in_note what at more)

place_behind : (count place : ℕ) (found : Option ℕ) → Some place ≡ behind count found → (at : ℕ) × ((found ≡ Some at) × (place ≡ count + at))
place_behind count place None e = absurd (cc)
place_behind count place (Some at) e = (at, (refl, cc))

none_behind : (count : ℕ) (found : Option ℕ) → None ≡ behind count found → found ≡ None
none_behind count None e = refl
none_behind count (Some at) e = absurd (cc)

module _ (in_note : Bool) (what : Begins) (test : Block → Bool) (old all now : ReadBlocks) (more : blocks.ReadBlocks) (adds : Adds in_note old all more) where
  pub begun_somewhere : (place : ℕ) → Some place ≡ behind (length old.blocks.items) (first_place test more.blocks) → now.blocks.items ≡ changed_at (begun what) place all.blocks.items
      → now.sources ≡ all.sources → now.declarations ≡ all.declarations → now.left ≡ all.left → Adds in_note old now (with_first test what more)
  begun_somewhere place e b s d l =
      let found = place_behind (length old.blocks.items) place (first_place test more.blocks) e in
      record {
        blocks_are = changed_more in_note what old.blocks.items all.blocks.items now.blocks.items more.blocks found.0 place adds.blocks_are found.1.1 b
            ∙ ap (λ (xs : List Block). old.blocks.items ++ map (kept_block in_note) xs) (sym (first_at test (begun what) more.blocks found.0 found.1.0));
        sources_are = ap (λ (xs : Vec ReadSource Global). xs.items) s ∙ adds.sources_are;
        declarations_are = ap (λ (xs : Vec ReadDeclarations Global). xs.items) d ∙ adds.declarations_are;
        left_is = λ left is. l ∙ adds.left_is left is;
      }

  pub begun_nowhere : None ≡ behind (length old.blocks.items) (first_place test more.blocks) → now ≡ all → Adds in_note old now (with_first test what more)
  begun_nowhere e same = record {
    blocks_are = ap (λ (one : ReadBlocks). one.blocks.items) same ∙ adds.blocks_are
        ∙ ap (λ (xs : List Block). old.blocks.items ++ map (kept_block in_note) xs) (sym (first_none test (begun what) more.blocks (none_behind (length old.blocks.items) (first_place test more.blocks) e)));
    sources_are = ap (λ (one : ReadBlocks). one.sources.items) same ∙ adds.sources_are;
    declarations_are = ap (λ (one : ReadBlocks). one.declarations.items) same ∙ adds.declarations_are;
    left_is = λ left is. ap (λ (one : ReadBlocks). one.left) same ∙ adds.left_is left is;
  }

pub begun_in_front : (in_note : Bool) (what : Begins) (old all now : ReadBlocks) (more : blocks.ReadBlocks) (place : ℕ) → Adds in_note old all more → place ≡ length old.blocks.items → now.blocks.items ≡ changed_at (begun what) place all.blocks.items
    → now.sources ≡ all.sources → now.declarations ≡ all.declarations → now.left ≡ all.left → Adds in_note old now (with_first (λ block. true) what more)
begun_in_front in_note what old all now more place adds p b s d l = record {
  blocks_are = changed_more in_note what old.blocks.items all.blocks.items now.blocks.items more.blocks 0 place adds.blocks_are (let e : length old.blocks.items ≡ length old.blocks.items + 0 = omega arith in p ∙ e) b
      ∙ ap (λ (xs : List Block). old.blocks.items ++ map (kept_block in_note) xs) (sym (first_of_all (begun what) more.blocks));
  sources_are = ap (λ (xs : Vec ReadSource Global). xs.items) s ∙ adds.sources_are;
  declarations_are = ap (λ (xs : Vec ReadDeclarations Global). xs.items) d ∙ adds.declarations_are;
  left_is = λ left is. l ∙ adds.left_is left is;
}
