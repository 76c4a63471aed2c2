-- How many rows begin the section of a name, and that there is at most one.
use Rattle.std.proofs.Common.{◌≡◌, ◌≢◌, ℕ, suc, ◌+◌, ◌≤◌, ◌<◌, Bool, true, cond, List, [], ◌∷◌, ◌++◌, map, length, get_or, refl, ap, sym, ◌∙◌, subst, arith}
use Rattle.std.specs.List.{flat_map, AllByRecursion as Each}
use Rattle.std.specs.Str.{bytes_eq}
use Rattle.std.proofs.lemmas.Slice.Eq.{bytes_eq-Decides}
use Rattle.std.proofs.lemmas.List.Folds.{flat_map-map}
use Rattle.doc_model.specs.declared.block.Block.{Block, roll-Block}
use Rattle.doc_model.specs.declared.block.Block.TheOpen.{Block-F, Section-F}
use Rattle.doc_model.specs.declared.block.Section.{Section, roll-Section}
use Rattle.doc_model.specs.declared.block.Block.TheFolds.{fold-roll-Block, fold-roll-Section, ind-Block, map-Block, map-Section}
use Rattle.doc_model.specs.declared.paragraph.Par.{Par}
use Rattle.doc_model.specs.declared.document.Document.{Document}
use Rattle.doc_model.specs.Parts.{SectionHead, block_sections, sections}
use Rattle.doc_model.specs.Valid.{AreNamesOrNone}
use Rattle.edit_rules.specs.Places.{as_block, head_of}
use Rattle.node_array.specs.declared.row.Row.{Row}
use Rattle.node_array.specs.declared.row.Row.TheVariants as row
use Rattle.node_array.specs.Rows.{par_rows, block_rows, rows_of}
use Rattle.container_rows.proofs.Firsts.{by_test}
use Rattle.container_rows.proofs.Parts.{block_is, section_is}
use Rattle.section_rows.proofs.Flat.{NoStart, par_flat}

-- how many rows begin the section of a name
abbrev pub begins : List ℕ → Row → ℕ
begins name (row.Start head) = cond (bytes_eq head.name name) 1 0
begins name row.End = 0
begins name (row.Par head items) = 0
begins name row.NoteText = 0

abbrev pub starts : List ℕ → List Row → ℕ
starts name [] = 0
starts name (r ∷ rows) = begins name r + starts name rows

-- how many sections have it
abbrev tally : List ℕ → List SectionHead → ℕ
tally name [] = 0
tally name (head ∷ heads) = cond (bytes_eq head.name name) 1 0 + tally name heads

module _ (name : List ℕ) where
  pub starts_both : (a b : List Row) → starts name (a ++ b) ≡ starts name a + starts name b
  starts_both [] b = omega arith
  starts_both (r ∷ a) b = omega (arith, starts_both a b)

  pub plain_none : (rows : List Row) → Each NoStart rows → starts name rows ≡ 0
  plain_none [] plain = refl
  plain_none (row.Start head ∷ rows) plain = absurd plain.0
  plain_none (row.End ∷ rows) plain = omega (arith, plain_none rows plain.1)
  plain_none (row.Par head items ∷ rows) plain = omega (arith, plain_none rows plain.1)
  plain_none (row.NoteText ∷ rows) plain = omega (arith, plain_none rows plain.1)

  pub par_none : (par : Par) → starts name (block_rows (as_block par)) ≡ 0
  par_none par = ap (starts name) (block_is par) ∙ plain_none (par_rows par) (par_flat par).plain

  tally_both : (a b : List SectionHead) → tally name (a ++ b) ≡ tally name a + tally name b
  tally_both [] b = omega arith
  tally_both (head ∷ a) b = omega (arith, tally_both a b)

  abbrev Counted : Block → Type 0
  Counted block = starts name (block_rows block) ≡ tally name (block_sections block)

  abbrev Block-Known : Type 0
  Block-Known = (block : Block) × Counted block

  abbrev Section-Known : Type 0
  Section-Known = (section : Section) × Counted (roll-Block (Block-F.Section section))

  par_counted : (par : Par) → Counted (as_block par)
  par_counted par = let none : block_sections (as_block par) ≡ [] = simp fold-roll-Block in par_none par ∙ sym (ap (tally name) none)

  blocks_counted : (ks : List Block-Known) → starts name (rows_of (map (λ k. k.0) ks)) ≡ tally name (flat_map block_sections (map (λ k. k.0) ks))
  blocks_counted [] = refl
  blocks_counted (k ∷ ks) =
      let blocks : List Block = map (λ k. k.0) ks in
      omega (arith, starts_both (block_rows k.0) (rows_of blocks), tally_both (block_sections k.0) (flat_map block_sections blocks), k.1, blocks_counted ks)

  pub section_starts : (x : Section-F Block Section) → starts name (block_rows (roll-Block (Block-F.Section (roll-Section x)))) ≡ cond (bytes_eq x.name name) 1 0 + starts name (rows_of x.blocks)
  section_starts x = ap (starts name) (section_is x) ∙ ap (λ (n : ℕ). cond (bytes_eq x.name name) 1 0 + n) (starts_both (rows_of x.blocks) (row.End ∷ []) ∙ nothing (starts name (rows_of x.blocks))) where
    nothing : (n : ℕ) → n + (0 + 0) ≡ n
    nothing n = omega arith

  section_counted : (x : Section-F Block Section) (ks : List Block-Known) → Counted (roll-Block (Block-F.Section (roll-Section (record x { blocks = map (λ k. k.0) ks }))))
  section_counted x ks =
      let blocks : List Block = map (λ k. k.0) ks in
      let whole : Section-F Block Section = record x { blocks = blocks } in
      let heads : block_sections (roll-Block (Block-F.Section (roll-Section whole))) ≡ record (head_of whole) { blocks = length (map block_sections blocks) } ∷ flat_map (λ heads. heads) (map block_sections blocks) = simp (fold-roll-Block, fold-roll-Section) in
      section_starts whole ∙ ap (λ (n : ℕ). cond (bytes_eq x.name name) 1 0 + n) (blocks_counted ks ∙ ap (tally name) (sym (flat_map-map (λ (heads : List SectionHead). heads) block_sections blocks))) ∙ ap (tally name) (sym heads)

  block_step : (x : Block-F Block Section) (y : Block-F Block-Known Section-Known) → map-Block Block-Known Section-Known Block Section (λ k. k.0) (λ k. k.0) y ≡ x → Counted (roll-Block x)
  block_step x (Block-F.Par par) is = subst (λ (z : Block-F Block Section). Counted (roll-Block z)) is (par_counted par)
  block_step x (Block-F.Section known) is = subst (λ (z : Block-F Block Section). Counted (roll-Block z)) is known.1

  section_step : (x : Section-F Block Section) (y : Section-F Block-Known Section-Known) → map-Section Block-Known Section-Known Block Section (λ k. k.0) (λ k. k.0) y ≡ x
      → Counted (roll-Block (Block-F.Section (roll-Section x)))
  section_step x y is =
      subst (λ (z : Section-F Block Section). Counted (roll-Block (Block-F.Section (roll-Section z)))) is
      (section_counted (record { kind = y.kind; name = y.name; style = y.style; protected = y.protected; hidden = y.hidden; source = y.source; blocks = [] }) y.blocks)

  block_counted : (block : Block) → Counted block
  block_counted = ind-Block Counted (λ section. Counted (roll-Block (Block-F.Section section))) block_step section_step

  body_counted : (body : List Block) → starts name (rows_of body) ≡ tally name (flat_map block_sections body)
  body_counted [] = refl
  body_counted (block ∷ body) =
      omega (arith, starts_both (block_rows block) (rows_of body), tally_both (block_sections block) (flat_map block_sections body), block_counted block, body_counted body)

  -- names that differ
  same_name : (head : SectionHead) → bytes_eq head.name name ≡ true → head.name ≡ name
  same_name head is_so = (bytes_eq-Decides head.name name).0 is_so

  none_there : (heads : List SectionHead) → ((k : ℕ) (d : List ℕ) → k < length heads → name ≢ get_or (map (λ head. head.name) heads) k d) → tally name heads ≡ 0
  none_there [] differ = refl
  none_there (head ∷ heads) differ =
      by_test (bytes_eq head.name name)
      (λ is_so. absurd (differ 0 [] (omega arith) (sym (same_name head is_so))))
      (λ other.
      let more = none_there heads (λ k d within. differ (suc k) d (omega (arith, within))) in
      omega (arith, ap {B = ℕ} (λ (b : Bool). cond b 1 0) other, more))

  names_long : (heads : List SectionHead) → length (map (λ head. head.name) heads) ≡ length heads
  names_long [] = refl
  names_long (head ∷ heads) = ap suc (names_long heads)

  at_most_one : name ≢ [] → (heads : List SectionHead) → AreNamesOrNone (map (λ head. head.name) heads) → tally name heads ≤ 1
  at_most_one given [] pairs = omega arith
  at_most_one given (head ∷ heads) pairs =
      by_test (bytes_eq head.name name)
      (λ is_so.
      let none = none_there heads
      (λ k d within same.
      given
      (sym (same_name head is_so)
      ∙ pairs 0 (suc k) d (omega arith) (omega (arith, within, names_long heads)) (same_name head is_so ∙ same)))
      in
      omega (arith, ap {B = ℕ} (λ (b : Bool). cond b 1 0) is_so, none))
      (λ other.
      let more = at_most_one given heads (λ i j d before within. pairs (suc i) (suc j) d (omega (arith, before)) (omega (arith, within))) in
      omega (arith, ap {B = ℕ} (λ (b : Bool). cond b 1 0) other, more))

  pub at_most_once : name ≢ [] → (doc : Document) → AreNamesOrNone (map (λ section. section.name) (sections doc)) → starts name (rows_of doc.body) ≤ 1
  at_most_once given doc names = omega (arith, body_counted doc.body, at_most_one given (sections doc) names)
