-- Each master of a valid document is read as itself, where the pages that its fields add are in their range.
use Rattle.std.proofs.Common.{ℕ, ◌≤◌, List, [], ◌∷◌, ◌++◌, map, max, fold, length, arith}
use Rattle.std.specs.List.{AllByRecursion as Each}
use Rattle.doc_model.specs.declared.document.Document.{Document}
use Rattle.doc_model.specs.declared.page_layout.HeadPar.{HeadPar}
use Rattle.doc_model.specs.declared.page_layout.Master.{Master}
use Rattle.doc_model.specs.declared.paragraph.Par.{Par}
use Rattle.doc_model.specs.Parts.{head_paragraphs, items_of}
use Rattle.doc_model.specs.Reading.{paragraphs}
use Rattle.doc_model.specs.Valid.{IsNoneOrGiven, IsOfHeader, IsValid}
use Rattle.back_fields.specs.Fit.{IsName}
use Rattle.back_heads.specs.Heads.{IsAdjusted, IsReadableHead}
use Rattle.back_masters.specs.Masters.{IsMasterBack, IsReadableMaster}
use Rattle.back_masters.proofs.Masters.{master_back}
use Rattle.back_references.proofs.Good.{given_good}
use Rattle.back_parts.specs.Parts.{names_in}
use Rattle.back_parts.proofs.Lists.{each_front, each_behind, each_part, each_of_made, each_joined}
use Rattle.back_parts.proofs.Named.{AreNamed, names_given}

-- none is greater than the greatest
at_most : (most a : ℕ) (numbers : List ℕ) → fold max a numbers ≤ most → (a ≤ most) × Each (λ n. n ≤ most) numbers
at_most most a [] h = (h, tt)
at_most most a (n ∷ numbers) h = let rest = at_most most (max a n) numbers h in (omega (arith, rest.0), (omega (arith, rest.0), rest.1))

module _ (doc : Document) (valid : IsValid doc) (adjusted : Each (λ par. Each IsAdjusted par.items) (head_paragraphs doc)) where
  abbrev given : AreNamed doc
  given = names_given doc valid

  -- each paragraph of a header has few items
  heads_few : Each (λ (par : HeadPar). length par.items ≤ 32768) (head_paragraphs doc)
  heads_few =
      let lengths : List ℕ = map (λ (par : Par). length (items_of par)) (paragraphs doc) in
      let own : List ℕ = map (λ (par : HeadPar). length par.items) (head_paragraphs doc) in
      each_of_made (λ n. n ≤ 32768) (λ (par : HeadPar). length par.items) (head_paragraphs doc) (each_behind (λ n. n ≤ 32768) lengths own (at_most 32768 0 (lengths ++ own) valid.limits.1.0).1)

  heads_readable : Each IsReadableHead (head_paragraphs doc)
  heads_readable =
      each_joined (λ (par : HeadPar). Each IsOfHeader par.items × Each IsAdjusted par.items) (λ par. length par.items ≤ 32768) IsReadableHead
      (λ par are few. record { each_item = are.0; adjusts = are.1; few = omega (arith, few) }) (head_paragraphs doc)
      (each_joined (λ (par : HeadPar). Each IsOfHeader par.items) (λ par. Each IsAdjusted par.items) (λ par. Each IsOfHeader par.items × Each IsAdjusted par.items) (λ par one other. (one, other)) (head_paragraphs doc) valid.header_items adjusted)
      heads_few

  abbrev IsReferring : Master → Type 0
  IsReferring master = IsNoneOrGiven (map (λ layout. layout.name) doc.layouts) master.layout × IsNoneOrGiven (map (λ other. other.name) doc.masters) master.next

  abbrev HasHeads : Master → Type 0
  HasHeads master = Each IsReadableHead (master.header ++ master.footer) × (length master.header ≤ 16) × (length master.footer ≤ 16)

  master_readable : (master : Master) → IsName master.name → IsReferring master → HasHeads master → IsReadableMaster (names_in doc) master
  master_readable master name refers heads = record {
    name = name;
    layout = given_good (names_in doc).layouts master.layout refers.0;
    next = given_good (names_in doc).masters master.next refers.1;
    header = each_front IsReadableHead master.header master.footer heads.0;
    header_few = heads.1;
    footer = each_behind IsReadableHead master.header master.footer heads.0;
    footer_few = heads.2;
  }

  pub each_master_back : Each (IsMasterBack (names_in doc)) doc.masters
  each_master_back =
      each_joined (λ (master : Master). IsName master.name × IsReferring master) HasHeads (IsMasterBack (names_in doc))
      (λ master is heads. master_back (names_in doc) master (master_readable master is.0 is.1 heads)) doc.masters
      (each_joined (λ (master : Master). IsName master.name) IsReferring (λ master. IsName master.name × IsReferring master) (λ master name refers. (name, refers)) doc.masters given.masters
      (each_joined (λ (master : Master). IsNoneOrGiven (map (λ layout. layout.name) doc.layouts) master.layout) (λ master. IsNoneOrGiven (map (λ other. other.name) doc.masters) master.next) IsReferring
      (λ master one other. (one, other)) doc.masters valid.layout_names_used valid.next_masters))
      (each_joined (λ (master : Master). Each IsReadableHead (master.header ++ master.footer)) (λ master. (length master.header ≤ 16) × (length master.footer ≤ 16)) HasHeads (λ master heads few. (heads, few.0, few.1)) doc.masters
      (each_part IsReadableHead (λ master. master.header ++ master.footer) doc.masters heads_readable) valid.headers)
