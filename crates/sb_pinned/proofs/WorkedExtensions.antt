-- Extensions with codes of their own: each is asked under its own code, and says itself what it keeps and admits.
use Rattle.std.specs.Prelude.{◌≡◌, refl, ℕ, true, false, not, codes, List, [], ◌∷◌, map, Some, None, option_map, pos, Bool}
use Rattle.sb_rule.specs.declared.change.Change.TheVariants.{Insert}
use Rattle.sb_rule.specs.declared.rule.Rule.TheVariants.{Foreign}
use Rattle.sb_relation.specs.Db.{Db}
use Rattle.sb_relation.specs.Fits.{is_empty, method_fits, rule_fits}
use Rattle.sb_relation.specs.Foreign.{Boxes, plain_rules, method_rules, attach_rules}
use Rattle.sb_relation.specs.Images.{image}
use Rattle.sb_relation.specs.Rules.{admits, holds}
use Rattle.sb_fold.specs.declared.refusal.Refusal.TheVariants.{Mistyped}
use Rattle.sb_fold.specs.Extensions.{Extensions, box_of, method_of}
use Rattle.sb_plain.specs.declared.command.Command.TheVariants as command
use Rattle.sb_plain.specs.Refusing.{refused}
use Rattle.sb_plain.specs.State.{State}
use Rattle.sb_pinned.proofs.Samples.{two, slot, a, t, numbers, heap}
use Rattle.sb_pinned.proofs.Scripts.{over}

-- the first of each kind wants nothing, the second something; the first attachment admits nothing, the second all
abbrev boxes : Boxes
boxes = record {
  methods =
      record { code = 1000; durable = true; fits = λ schema key. is_empty key }
      ∷ record { code = 1001; durable = false; fits = λ schema key. not (is_empty key) }
      ∷ [];
  attachments =
      record (plain_rules 1000) { fits = λ schema desc. is_empty desc; admits = λ desc db name c. false; image = λ desc schema rows. record { entries = []; sums = pos 1000 ∷ [] } }
      ∷ record (plain_rules 1001) { fits = λ schema desc. not (is_empty desc); image = λ desc schema rows. record { entries = []; sums = pos 1001 ∷ [] } }
      ∷ [];
}

abbrev guests : Extensions
guests = record { boxes = boxes; methods = []; attachments = [] }

-- ---- by their codes
abbrev codes_asked : List ℕ
codes_asked = 1001 ∷ 1000 ∷ 1002 ∷ []

attachments_by_code : map (λ code. option_map (λ x. x.code) (attach_rules code boxes.attachments)) codes_asked ≡ Some 1001 ∷ Some 1000 ∷ None ∷ []
attachments_by_code = refl

methods_by_code : map (λ code. option_map (λ x. x.code) (method_rules code boxes.methods)) codes_asked ≡ Some 1001 ∷ Some 1000 ∷ None ∷ []
methods_by_code = refl

-- ---- which relations a method keeps: without a key, and with one
abbrev keeps : ℕ → List Bool
keeps method = map (method_fits (method_of guests method) method numbers) ([] ∷ (a ∷ []) ∷ [])

a_method_says_what_it_keeps : map keeps codes_asked ≡ (false ∷ true ∷ []) ∷ (true ∷ false ∷ []) ∷ (false ∷ false ∷ []) ∷ []
a_method_says_what_it_keeps = refl

-- below 1000 none but tree has a key, whatever an extension says
codes_below_1000_are_ours : map (method_fits (Some (record { code = 999; durable = true; fits = λ schema key. not (is_empty key) })) 999 numbers) ([] ∷ (a ∷ []) ∷ []) ≡ true ∷ false ∷ []
codes_below_1000_are_ours = refl

-- ---- what an attachment says: over no bytes, and over one
abbrev db : Db
db = (t, heap [] ((slot 0, two 1 1) ∷ [])) ∷ []

abbrev descs : List (List ℕ)
descs = [] ∷ (5 ∷ []) ∷ []

an_attachment_says_where_it_stands :
    map (λ code. map (λ desc. rule_fits (box_of guests (Foreign code desc)) db numbers (Foreign code desc)) descs) codes_asked
    ≡ (false ∷ true ∷ []) ∷ (true ∷ false ∷ []) ∷ (false ∷ false ∷ []) ∷ []
an_attachment_says_where_it_stands = refl

an_attachment_says_what_it_admits :
    map (λ code. admits (box_of guests (Foreign code [])) db t (Foreign code []) (Insert (slot 0) (two 1 1))) codes_asked ≡ true ∷ false ∷ false ∷ []
an_attachment_says_what_it_admits = refl

it_holds_where_each_row_is_admitted : map (λ code. holds (box_of guests (Foreign code [])) db t (Foreign code [])) codes_asked ≡ true ∷ false ∷ false ∷ []
it_holds_where_each_row_is_admitted = refl

an_attachment_says_what_it_contains :
    map (λ code. (image (box_of guests (Foreign code [])) db t (Foreign code [])).sums) codes_asked ≡ (pos 1001 ∷ []) ∷ (pos 1000 ∷ []) ∷ [] ∷ []
an_attachment_says_what_it_contains = refl

-- ---- commands are refused so
abbrev live : State
live = record (over db) { live = record { methods = 1000 ∷ 1001 ∷ []; attachments = 1000 ∷ 1001 ∷ [] } }

a_create_is_refused_that_its_method_doesn't_keep :
    map (λ method. refused guests live (command.Create (codes "u") method numbers [])) (1000 ∷ 1001 ∷ []) ≡ None ∷ Some Mistyped ∷ []
a_create_is_refused_that_its_method_doesn't_keep = refl

an_attach_is_refused_that_doesn't_fit : map (λ code. refused guests live (command.Attach t (codes "x") (Foreign code []))) (1000 ∷ 1001 ∷ []) ≡ None ∷ Some Mistyped ∷ []
an_attach_is_refused_that_doesn't_fit = refl
