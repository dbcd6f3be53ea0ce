-- Databases of lawful states, and steps with other boxes.
use Rattle.std.proofs.Common.{◌≡◌, ℕ, ◌==◌, ◌&&◌, ◌||◌, inl, inr, Bool, true, false, cond, List, [], ◌∷◌, ◌++◌, map, Some, option_map, refl, sym, ap, subst, ◌∙◌}
use Rattle.std.specs.Prelude.{All}
use Rattle.std.specs.List.{flat_map, list_any}
use Rattle.std.proofs.lemmas.List.Elements.{All-nil, All-cons, All-head, All-tail, All-append}
use Rattle.std.proofs.lemmas.List.Folds.{list_any-append}
use Rattle.std.proofs.Math.Bool.{or-false}
use Rattle.sb_relation.specs.Db.{Name, Attached, Relation, Db}
use Rattle.sb_relation.specs.Foreign.{method_rules, attach_rules}
use Rattle.sb_plain.specs.declared.command.Command.{Command}
use Rattle.sb_plain.specs.declared.reply.Reply.{Reply}
use Rattle.sb_plain.specs.State.{State, committed, ended}
use Rattle.sb_plain.specs.Step.{Steps}
use Rattle.sb_grammar.specs.Columns.{Says, Bad}
use Rattle.sb_ctx.specs.Method.{Method}
use Rattle.sb_registry.specs.Boxes.{Meanings, method_of, attachment_of}
use Rattle.sb_kernel.specs.Working.{extensions_of}
use Rattle.sb_vectors.specs.Vectors.{AreSameBoxes}
use Rattle.sb_kernel.proofs.MoveBoxes.{rules_alike}
use Rattle.sb_kernel.specs.Named.{Named}
use Rattle.sb_kernel.specs.Naming.{HasSameNamed, is_alike, is_named, named_by, named_in, named_method}
use Rattle.sb_kernel.specs.Opening.{opened}
use Rattle.sb_kernel.specs.Plays.{AreBoxesOf}
use Rattle.sb_kernel.specs.Crashes.{HoldsDatabase, IsMade}
use Rattle.sb_lawful.specs.Laws.{databases, HasDotlessNames}
use Rattle.sb_lawful.proofs.Steps.{of_view}
use Rattle.sb_lawful_rows.specs.Work.{IsLawfulWith}
use Rattle.sb_lawful_steps.specs.Laws.{AreAlikeOn, names_method, names_rule}
use Rattle.sb_lawful_steps.specs.Spelling.{rule_code}
use Rattle.sb_lawful_steps.proofs.States.{to_each}
use Rattle.sb_said.specs.Laws.{HasLimits, IsLawfulWithin}
use Rattle.sb_said.specs.Written.{IsWritten}
use Rattle.sb_said.proofs.Stepping.{written-steps, nothing-lawful, alike-lawful}
use Rattle.sb_lawful_plays.specs.Laws.{IsLawfulFor, IsLawfulOver, CommitsAreLawful, NothingIsLawful, named_rule, named_at, named_of, SameBoxesAreLawful, HeldBoxesAreLawful, CrashesLeaveLawful}

-- ---- the same boxes have the same rules
methods_of : (code : ℕ) (methods : List Method) → method_rules code (map (λ x. x.rules) methods) ≡ option_map (λ x. x.rules) (method_of code methods)
methods_of code [] = refl
methods_of code (m ∷ methods) =
    elim (m.rules.code == code)
    as (λ t. cond t (Some m.rules) (method_rules code (map (λ x. x.rules) methods)) ≡ option_map (λ x. x.rules) (cond t (Some m) (method_of code methods)))
    [ true ↦ refl | false ↦ methods_of code methods ]

same_method : (m n : Meanings) (code : ℕ) → method_of code (n.methods ++ n.spare_methods) ≡ method_of code (m.methods ++ m.spare_methods)
    → method_rules code (extensions_of m).boxes.methods ≡ method_rules code (extensions_of n).boxes.methods
same_method m n code same =
    methods_of code (m.methods ++ m.spare_methods) ∙ ap (option_map (λ (x : Method). x.rules)) (sym same) ∙ sym (methods_of code (n.methods ++ n.spare_methods))

same_rules : (m n : Meanings) (code : ℕ) → attachment_of code (n.attachments ++ n.spare_attachments) ≡ attachment_of code (m.attachments ++ m.spare_attachments)
    → attach_rules code (extensions_of m).boxes.attachments ≡ attach_rules code (extensions_of n).boxes.attachments
same_rules m n code same = sym (rules_alike code (m.attachments ++ m.spare_attachments) (n.attachments ++ n.spare_attachments) same)

-- where all boxes are the same ones, those are that the databases name
pub alike : (m n : Meanings) (dbs : List Db) → AreSameBoxes m n → AreAlikeOn dbs (extensions_of m) (extensions_of n)
alike m n dbs same = record {
  methods = λ code named. same_method m n code (same.methods code);
  attachments = λ code named. same_rules m n code (same.attachments code);
}

pub turned : (m n : Meanings) → AreSameBoxes m n → AreSameBoxes n m
turned m n same = record { methods = λ code. sym (same.methods code); attachments = λ code. sym (same.attachments code) }

-- ---- a step with the boxes in the order of the state's codes
pub stepped : (m : Meanings) (s : State) (c : Command) (boxes : Meanings) → AreBoxesOf m s boxes → (reply : Reply) (t : State) → Steps (extensions_of boxes) s c reply t → IsWritten c → IsLawfulFor m s
    → IsLawfulFor m t
stepped m s c boxes are reply t steps is lawful =
    alike-lawful (extensions_of boxes) (extensions_of m) t (alike boxes m (databases t) (turned m boxes are.same))
    (subst (IsLawfulWithin (extensions_of boxes)) steps.leads
    (written-steps (extensions_of boxes) s c steps.picks is (alike-lawful (extensions_of m) (extensions_of boxes) s (alike m boxes (databases s) are.same) lawful)))

-- ---- what a database names
no_methods : (code : ℕ) (items : List Attached) → list_any (λ n. is_alike n.method true && n.code == code) (map named_rule items) ≡ false
no_methods code [] = refl
no_methods code (a ∷ items) = no_methods code items

rules_in : (code : ℕ) (items : List Attached) → list_any (λ n. is_alike n.method false && n.code == code) (map named_rule items) ≡ list_any (λ a. rule_code a.rule == code) items
rules_in code [] = refl
rules_in code (a ∷ items) = ap (λ (b : Bool). (rule_code a.rule == code) || b) (rules_in code items)

methods_named : (code : ℕ) (db : Db) → is_named true code (named_of db) ≡ names_method code db
methods_named code [] = refl
methods_named code (e ∷ db) =
    ap (λ (b : Bool). (e.1.method == code) || b)
    (list_any-append (λ (n : Named). is_alike n.method true && n.code == code) (map named_rule e.1.attachments) (named_of db)
    ∙ (λ i. no_methods code e.1.attachments i || methods_named code db i))

rules_named : (code : ℕ) (db : Db) → is_named false code (named_of db) ≡ names_rule code db
rules_named code [] = refl
rules_named code (e ∷ db) =
    list_any-append (λ (n : Named). is_alike n.method false && n.code == code) (map named_rule e.1.attachments) (named_of db)
    ∙ (λ i. rules_in code e.1.attachments i || rules_named code db i)

pub alike_named : (m n : Meanings) (db : Db) → HasSameNamed (named_of db) m n → AreAlikeOn (db ∷ []) (extensions_of m) (extensions_of n)
alike_named m n db same = record {
  methods = λ code named. same_method m n code (same.methods code (methods_named code db ∙ sym (or-false (names_method code db)) ∙ named));
  attachments = λ code named. same_rules m n code (same.attachments code (rules_named code db ∙ sym (or-false (names_rule code db)) ∙ named));
}

-- ---- what the store of a database names
abbrev rule_named : ℕ → Named
rule_named code = record { method = false; code = code }

-- two lists whose elements have the same codes beside other things
same_codes : {A B C : Type 0} (f : A → C) (g : B → C) (xs : List A) (ys : List B) (code : C → ℕ) → map f xs ≡ map g ys → map (λ x. rule_named (code (f x))) xs ≡ map (λ y. rule_named (code (g y))) ys
same_codes f g [] [] code same = refl
same_codes f g (x ∷ xs) (y ∷ ys) code same =
    let first : f x ≡ g y = cc in
    let rest : map f xs ≡ map g ys = cc in
    λ i. rule_named (code (first i)) ∷ same_codes f g xs ys code rest i
same_codes f g [] (y ∷ ys) code same = absurd (cc)
same_codes f g (x ∷ xs) [] code same = absurd (cc)

-- entries that are read of other things, each of which names what the relation does
same_names : {K : Type 0} (items : List K) (entry : K → Name × Relation) (by : K → List Named) → All (λ k. named_at (entry k).1 ≡ by k) items → named_of (map entry items) ≡ flat_map by items
same_names [] entry by each = refl
same_names (k ∷ items) entry by each =
    λ i. All-head (λ x. named_at (entry x).1 ≡ by x) k items each i ++ same_names items entry by (All-tail (λ x. named_at (entry x).1 ≡ by x) k items each) i

-- the descriptors name what the relations do
pub held_names : (m : Meanings) (image : List ℕ) (db : Db) (held : HoldsDatabase m image db) → named_of db ≡ named_in held.committed.kept
held_names m image db held =
    ap named_of held.committed.is
    ∙ same_names held.committed.kept _ (λ k. named_by k.descriptor) (λ i d below.
    let is = (held.committed.keeps.tables.each i d below).is in
    λ j. named_method (sym is.method j) ∷ sym (same_codes _ _ _ _ (λ c. c.0) is.attachments) j)

-- ---- databases
over : (m : Meanings) (db : Db) → IsLawfulWith (extensions_of m) db [] → HasDotlessNames db → HasLimits db → IsLawfulOver m db
over m db lawful names limits boxes = record {
  along = record {
    lawful = record {
      commits = All-cons (λ (d : Db). IsLawfulWith (extensions_of m) d []) db [] lawful (All-nil (λ (d : Db). IsLawfulWith (extensions_of m) d []));
      open_one = tt;
    };
    names = All-cons HasDotlessNames db [] names (All-nil HasDotlessNames);
  };
  limits = All-cons HasLimits db [] limits (All-nil HasLimits);
}

pub nothing-over : NothingIsLawful
nothing-over m boxes = nothing-lawful (extensions_of m) _ _

pub same-lawful : SameBoxesAreLawful
same-lawful m n db same lawful boxes = alike-lawful (extensions_of m) (extensions_of n) (opened boxes db) (alike_named m n db same) (lawful boxes)

pub held-lawful : HeldBoxesAreLawful
held-lawful m n image db held same lawful = same-lawful m n db (subst (λ (named : List Named). HasSameNamed named m n) (sym (held_names m image db held)) same) lawful

pub commits-lawful : CommitsAreLawful
commits-lawful m s lawful =
    let names : All HasDotlessNames s.commits = (to_each HasDotlessNames s lawful.along.names).commits in
    let limits : All HasLimits s.commits = (to_each HasLimits s lawful.limits).commits in
    let each : All (IsLawfulOver m) s.commits = λ k d below. over m _ (lawful.along.lawful.commits k d below) (names k d below) (limits k d below) in
    record { each = each; last = of_view (IsLawfulOver m) (nothing-over m) (ended s) (All-append (IsLawfulOver m) s.commits [] each (All-nil (IsLawfulOver m))) }

-- ---- what a crash leaves
pub crashes-leave : CrashesLeaveLawful
crashes-leave m s t (Bad column) image is lawful next left = record { db = committed s; holds = left; lawful = (commits-lawful m s lawful).last }
crashes-leave m s t (Says c) image is lawful next (inl holds) = record { db = committed s; holds = holds; lawful = (commits-lawful m s lawful).last }
crashes-leave m s t (Says c) image is lawful next (inr made) = record { db = made.db; holds = made.holds; lawful = of_made made.made }
  where
    of_made : {db : Db} → IsMade m s c t db → IsLawfulOver m db
    of_made (inl same) = subst (IsLawfulOver m) (sym same) (commits-lawful m t next).last
    of_made (inr down) =
        let may = down.1 in
        subst (IsLawfulOver m) (sym may.is) (commits-lawful m may.after (stepped m s c may.boxes may.are may.reply may.after may.steps is lawful)).last
