-- The last master that is stated.
use Rattle.std.proofs.Common.{◌≡◌, ℕ, Bool, true, false, List, [], ◌∷◌, ◌++◌, reverse, Option, Some, None, refl, sym, ap, ap₂, ◌∙◌}
use Rattle.std.specs.Prelude.{filter_map, unwrap_or, if◌then◌else◌}
use Rattle.std.specs.List.{cons_option}
use Rattle.std.proofs.lemmas.List.{reverse-append}
use Rattle.std.proofs.lemmas.List.Elements.{filter_map-append}
use Rattle.doc_model.specs.declared.style.Family.TheVariants as family
use Rattle.doc_model.specs.declared.paragraph.Par.{out-Par}
use Rattle.doc_model.specs.declared.page_layout.Master.{Master}
use Rattle.doc_model.specs.declared.page_layout.PageLayout.{PageLayout}
use Rattle.doc_model.specs.declared.document.Document.{Document}
use Rattle.style_model.specs.Effective.{stated_master}
use Rattle.style_model.specs.Masters.{first_master, place_of_master}
use Rattle.page_model.specs.BodyRows.{stated_master as place_stated}
use Rattle.format_model.specs.Keys.{Standing, columns_with, first_of, is_hidden, master_stated_by, par_of}
use Rattle.round_styles.specs.Columns.{columns_at}
use Rattle.round_columns.specs.InForce.{master_behind}

-- of one more there is a new last one, or the same
abbrev pub or_before : {Y : Type 0} → Option Y → Option Y → Option Y
or_before (Some y) before = Some y
or_before None before = before

by_own : {Y : Type 0} (own : Option Y) (before : List Y) → first_of (reverse (cons_option own []) ++ before) ≡ or_before own (first_of before)
by_own None before = refl
by_own (Some y) before = refl

last_more : {X Y : Type 0} (f : X → Option Y) (xs : List X) (x : X) → first_of (reverse (filter_map f (xs ++ x ∷ []))) ≡ or_before (f x) (first_of (reverse (filter_map f xs)))
last_more {X = X} {Y = Y} f xs x =
    ap (λ (ys : List Y). first_of (reverse ys)) (filter_map-append f xs (x ∷ [])) ∙ ap first_of (reverse-append (filter_map f xs) (filter_map f (x ∷ [])))
    ∙ by_own (f x) (reverse (filter_map f xs))

abbrev last_or : Option ℕ → Option ℕ → Option ℕ
last_or first None = first
last_or first (Some at) = Some at

last_own : (first own last : Option ℕ) → last_or first (or_before own last) ≡ or_before own (last_or first last)
last_own first None last = refl
last_own first (Some at) last = refl

-- the master in force behind one paragraph more
pub master_more : (doc : Document) (before : List Standing) (one : Standing) → master_behind doc (before ++ one ∷ []) ≡ or_before (master_stated_by doc one) (master_behind doc before)
master_more doc before one =
    ap (last_or (first_master doc.masters)) (last_more (master_stated_by doc) before one)
    ∙ last_own (first_master doc.masters) (master_stated_by doc one) (first_of (reverse (filter_map (master_stated_by doc) before)))

-- the master that a paragraph states
abbrev named_master : Document → List ℕ → Option ℕ
named_master doc [] = None
named_master doc (c ∷ cs) = place_of_master doc.masters (c ∷ cs)

by_name : (doc : Document) (stated : Option (List ℕ)) → place_stated doc.masters stated ≡ named_master doc (unwrap_or stated [])
by_name doc None = refl
by_name doc (Some []) = refl
by_name doc (Some (c ∷ cs)) = refl

pub brought_is : (doc : Document) (one : Standing) (masters : List Master) (hidden : Bool) (stated : Option (List ℕ)) → masters ≡ doc.masters → hidden ≡ is_hidden one
    → stated ≡ stated_master doc.styles family.Paragraph (out-Par (par_of one)).style → (if hidden then None else place_stated masters stated) ≡ master_stated_by doc one
brought_is doc one masters hidden stated m h s =
    ap (λ (x : List Master). if hidden then None else place_stated x stated) m
    ∙ ap (λ (x : Option ℕ). if hidden then None else x) (by_name doc stated)
    ∙ ap (λ (x : Option (List ℕ)). if hidden then None else named_master doc (unwrap_or x [])) s
    ∙ ap (λ (x : Bool). if x then None else named_master doc (unwrap_or (stated_master doc.styles family.Paragraph (out-Par (par_of one)).style) [])) h

-- the columns of pages with a master
pub columns_are : (doc : Document) (masters : List Master) (layouts : List PageLayout) (place : Option ℕ) → masters ≡ doc.masters → layouts ≡ doc.layouts → columns_at masters layouts place ≡ columns_with doc place
columns_are doc masters layouts place m l =
    ap (λ (x : List Master). columns_at x layouts place) m ∙ ap (λ (x : List PageLayout). columns_at doc.masters x place) l

-- where it states one
pub some_stated : (doc : Document) (before : List Standing) (one : Standing) (place : ℕ) → Some place ≡ master_stated_by doc one → Some place ≡ master_behind doc (before ++ one ∷ [])
some_stated doc before one place e = ap (λ (own : Option ℕ). or_before own (master_behind doc before)) e ∙ sym (master_more doc before one)

-- where it states none
pub none_stated : (doc : Document) (before : List Standing) (one : Standing) (now : Option ℕ) → None ≡ master_stated_by doc one → now ≡ master_behind doc before → now ≡ master_behind doc (before ++ one ∷ [])
none_stated doc before one now e is = is ∙ ap (λ (own : Option ℕ). or_before own (master_behind doc before)) e ∙ sym (master_more doc before one)
