-- What is read of a file, part by part.
use Rattle.std.specs.Prelude.{◌≡◌, ◌-◌, Bool, true, false, not, map, length, option_to_list, Result, Ok, Err}
use Rattle.doc_model.specs.declared.document.Document.{Document}
use Rattle.doc_model.specs.declared.report.Report.{Report}
use Rattle.doc_model.specs.declared.refusal.Limit.TheVariants as limit
use Rattle.doc_model.specs.Alike.{in_block}
use Rattle.load_model.specs.declared.element.Element.{Element}
use Rattle.load_model.specs.Blocks.{with_place}
use Rattle.load_model.specs.Left.{all_of, both, only_elements}
use Rattle.load_model.specs.Loaded as model
use Rattle.load_model.specs.Loaded.{at_most_ten, declarations_left, draft_of, kept_declarations, met_of, stated_declarations, text_left}
use Rattle.load_model.specs.Met.{tables_met}
use Rattle.load_model.specs.Offences.{places_beyond, places_of_loops}
use Rattle.load_model.specs.Styles.{style_parts}
use Rattle.declared_names.specs.Kept.{Shown}
use Rattle.declared_names.specs.Names.{IsDeclared}
use Rattle.element_parts.specs.Shown.{shown}
use Rattle.head_read.specs.Masters.{AreMasters}
use Rattle.read_blocks.specs.declared.read.Declared.{Declared}
use Rattle.read_blocks.specs.declared.read.ReadDeclarations.{ReadDeclarations}
use Rattle.sheet_styles.specs.Read.{AreValues}
use Rattle.doc_load.specs.Offences.{of_tree}
use Rattle.doc_load.specs.declared.declarations.Declarations.{Declarations}
use Rattle.doc_load.specs.declared.declarations.OfKind.{OfKind}
use Rattle.doc_load.specs.declared.offence.LoadFault.{LoadFault}
use Rattle.doc_load.specs.declared.offence.LoadFault.TheVariants as fault
use Rattle.doc_load.specs.declared.outcome.Outcome.{Outcome}
use Rattle.doc_load.specs.declared.outcome.Outcome.TheVariants as outcome
use Rattle.doc_load.specs.declared.parts.PartLimits.{PartLimits}
use Rattle.doc_load.specs.declared.parts.ReadParts.{ReadParts}
use Rattle.doc_load.specs.declared.text.MetFaults.{MetFaults}
use Rattle.doc_load.specs.declared.text.ReadText.{ReadText}

-- the answer that an outcome is
abbrev pub answer_of : Outcome → Result (Document × Report) LoadFault
answer_of (outcome.Loaded doc report) = Ok (record { 0 = doc; 1 = report })
answer_of (outcome.Refused offence) = Err (fault.Offence (of_tree offence))

-- where the parts of a root pass limits
pub record LimitsAre (limits : PartLimits) (root : Element) : Type 0 where
  pub styles : option_to_list limits.styles ≡ places_beyond limit.Styles root
  pub lists : option_to_list limits.lists ≡ places_beyond limit.ListStyles root
  pub layouts : option_to_list limits.layouts ≡ places_beyond limit.Layouts root
  pub masters : option_to_list limits.masters ≡ places_beyond limit.Masters root

-- the parts of a root were read
pub record PartsAre (parts : ReadParts) (root : Element) : Type 0 where
  pub count_is : parts.count ≡ length (style_parts root)
  pub values_are : AreValues parts.values root
  pub masters_are : AreMasters parts.masters root
  pub loops_are : parts.loops.items ≡ places_of_loops root
  pub limits_are : LimitsAre parts.limits root

-- faults of what is met in the text of a root
pub record AreMet (faults : MetFaults) (root : Element) : Type 0 where
  pub section_is : option_to_list faults.section ≡ places_beyond limit.Sections root
  pub deep_are : faults.deep.items ≡ places_beyond limit.SectionDepth root
  pub tables_are : faults.tables.items ≡ tables_met (met_of root)

-- whether declarations are of a kind
abbrev pub is_of_kind : Bool → ReadDeclarations → Bool
is_of_kind true part = part.sequences
is_of_kind false part = not part.sequences

-- a declaration as it is stated
abbrev pub told : Declared → Shown
told declared = record { place = declared.place; name = declared.name; left = declared.left }

-- the declarations of one kind were read
pub record KindIs (sequences : Bool) (root : Element) (kind : OfKind) : Type 0 where
  pub names_are : IsDeclared sequences (stated_declarations sequences root) (met_of root) kind.names
  pub left_is : kind.left ≡ shown (both (all_of (map (λ declared. declared.left) (kept_declarations sequences root))) (only_elements (length (stated_declarations sequences root) - length (kept_declarations sequences root))))

-- the declared names of a root
pub record DeclarationsAre (all : Declarations) (root : Element) : Type 0 where
  pub variables_are : all.variables ≡ model.declared_names false root
  pub sequences_are : all.sequences ≡ model.declared_names true root
  pub beyond_is : option_to_list all.beyond ≡ places_beyond limit.Declarations root
  pub left_is : all.left ≡ shown (declarations_left root)

-- the text of a root was read
pub record TextIs (text : ReadText) (root : Element) : Type 0 where
  pub body_is : text.body ≡ map (in_block (with_place at_most_ten)) (draft_of root).body
  pub declarations_are : DeclarationsAre text.declarations root
  pub faults_are : AreMet text.faults root
  pub left_is : text.left ≡ shown (text_left root)
