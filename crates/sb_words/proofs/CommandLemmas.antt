-- What the command line is to clap, and what the matches of words that it takes have.
use Rattle.std.proofs.Common.{◌≡◌, ◌∙◌, ◌<◌, ◌≤◌, ◌∷◌, ◌++◌, ◌&&◌, ◌⊎◌, ℕ, Bool, List, [], Option, Some, None, is_some, true, false, true≢false, not, zero, suc, length, map, codes, refl, sym, ap, inl, inr, arith}
use Rattle.std.specs.List.{list_all, slice_index_or}
use Rattle.std.specs.Str.{bytes_eq}
use Rattle.std.proofs.Math.Seq.{get_or-append_seam}
use Rattle.std.proofs.lemmas.List.{get_or-map, length-append, length-map}
use Rattle.std.proofs.lemmas.Slice.Eq.{bytes_eq-Decides}
use Rattle.clap.specs.Words.{IsParsedFrom, IsPlain, Rule, Text, app_of, args_of, first_of, first_value, found_of, is_simple, is_simple_and_free, items_of, one_of, rows_of, rule_of}
use Rattle.clap.specs.Built.{IsAuto}
use Rattle.clap.specs.Facts.{WantsDefault, least_values}
use Rattle.clap.specs.Walk.{texts}
use Rattle.clap.specs.Simple.{IsSimple, is_ready, is_ready_leaf}
use Rattle.clap.specs.declared.builder.action.ArgAction.TheVariants.{Set}
use Rattle.clap.specs.declared.builder.arg.Arg.{Arg}
use Rattle.clap.specs.declared.builder.command.Command.{Command}
use Rattle.clap.specs.declared.builder.command.Command.TheViews.{out-Command}
use Rattle.clap.specs.declared.builder.value_parser.ValueParser.TheVariants.{Unsigned}
use Rattle.clap.specs.declared.parser.matches.ArgMatches.{ArgMatches}
use Rattle.clap.proofs.CallerLemmas.{required_has_value}
use Rattle.clap.proofs.SimpleLemmas.{all_simple, ready_simple, simple_groups}
use Rattle.clap.proofs.TakesLemmas.{each_rule, free_arg}
use Rattle.clap.proofs.WalkLemmas.{both, first_value-rows, one_text-rows}
use Rattle.sb_words.specs.Matched.{HasNumber, IsComplete}
use Rattle.sb_words.specs.Words.{arguments, create_rule, number_rule, starburst, store_rule}
use Rattle.sb_words.proofs.ArgumentLemmas.{IsValued, default_text}

-- ---- tests of the command line

pub simple : is_simple starburst ≡ true
unfolding starburst
simple = refl

pub simple_and_free : is_simple_and_free starburst ≡ true
unfolding starburst
simple_and_free = refl

ready : is_ready starburst.top ≡ true
unfolding starburst
ready = refl

ready_leaves : list_all is_ready_leaf starburst.subs ≡ true
unfolding starburst
ready_leaves = refl

simple_rules : all_simple starburst.top.rules ≡ true
unfolding starburst
simple_rules = refl

free_rules : list_all (λ (r : Rule). r.is_free) starburst.top.rules ≡ true
unfolding starburst
free_rules = refl

keeps_required : starburst.top.subcommand_negates_reqs ≡ false
unfolding starburst
keeps_required = refl

its_rules : starburst.top.rules ≡ arguments
unfolding starburst
its_rules = refl

-- ---- ids

-- no rule of the list has the id
abbrev lacks : Text → List Rule → Bool
lacks id = list_all (λ r. not (bytes_eq r.id id))

-- the id is neither empty nor that of an argument that building adds
abbrev is_own : Text → Bool
is_own id = not (bytes_eq id []) && (not (bytes_eq id (codes "help")) && not (bytes_eq id (codes "version")))

untrue : (b : Bool) → not b ≡ true → b ≡ true → ⊥
untrue true n e = true≢false (sym n)
untrue false n e = true≢false (sym e)

differs : (a b : Text) → not (bytes_eq a b) ≡ true → a ≡ b → ⊥
differs a b n e = untrue _ n ((bytes_eq-Decides a b).1 e)

lacking : (id : Text) (rs : List Rule) → lacks id rs ≡ true → (j : ℕ) (e : Rule) → j < length rs → bytes_eq (slice_index_or rs j e).id id ≡ true → ⊥
lacking id [] h j e lt same = omega arith
lacking id (r ∷ rs) h zero e lt same = untrue _ (both _ _ h).0 same
lacking id (r ∷ rs) h (suc j) e lt same = lacking id rs (both _ _ h).1 j e (omega arith) same

-- one rule alone has its id
alone : (id : Text) (front : List Rule) (r : Rule) (back : List Rule) → lacks id front ≡ true → lacks id back ≡ true
    → (j : ℕ) (e : Rule) → j < length (front ++ r ∷ back) → bytes_eq (slice_index_or (front ++ r ∷ back) j e).id id ≡ true → j ≡ length front
alone id [] r back f b zero e lt same = refl
alone id [] r back f b (suc j) e lt same = absurd (lacking id back b j e (omega arith) same)
alone id (x ∷ front) r back f b zero e lt same = absurd (untrue _ (both _ _ f).0 same)
alone id (x ∷ front) r back f b (suc j) e lt same =
    let rest : j ≡ length front = alone id front r back (both _ _ f).1 b j e (omega arith) same in
    omega arith

some_arg : (xs : List Arg) → 0 < length xs → Arg
some_arg [] lt = absurd (omega arith)
some_arg (x ∷ xs) lt = x

-- ---- an argument of the command

module _ (c : Command) (is : app_of c ≡ starburst) where
  rules_are : map rule_of (args_of c) ≡ arguments
  rules_are = ap (λ a. a.top.rules) is ∙ its_rules

  is_simple_command : IsSimple c
  is_simple_command = ready_simple c (ap (λ a. is_ready a.top) is ∙ ready) (ap (λ a. list_all is_ready_leaf a.subs) is ∙ ready_leaves)

  plain : IsPlain c
  plain =
      let groups = simple_groups c (ap (λ a. all_simple a.top.rules) is ∙ simple_rules) in
      let free = each_rule (λ r. r.is_free) (args_of c) (ap (λ a. list_all (λ r. r.is_free) a.top.rules) is ∙ free_rules) in (
        λ k d lt.
            let f = free_arg (slice_index_or (args_of c) k d) (is_simple_command.args k d lt) (free k d lt) in
            (f.exclusive, f.conflicts, f.overrides, groups k d lt),
        is_simple_command.groups,
      )

  negates : (out-Command c).subcommand_negates_reqs ≡ false
  negates = ap (λ a. a.top.subcommand_negates_reqs) is ∙ keeps_required

  -- the argument of one of the rules
  module _ (front : List Rule) (r : Rule) (back : List Rule) (split : arguments ≡ front ++ r ∷ back) (f : lacks r.id front ≡ true) (b : lacks r.id back ≡ true) where
    list : map rule_of (args_of c) ≡ front ++ r ∷ back
    list = rules_are ∙ split

    inside : length front < length (args_of c)
    inside = omega (arith, ap length list, length-map (args_of c) rule_of, length-append front (r ∷ back))

    d : Arg
    d = some_arg (args_of c) (omega (arith, inside))

    rule_is : rule_of (slice_index_or (args_of c) (length front) d) ≡ r
    rule_is = sym (get_or-map rule_of (args_of c) (length front) d r inside) ∙ ap (λ rs. slice_index_or rs (length front) r) list ∙ get_or-append_seam front r back r

    only : (j : ℕ) (e : Arg) → j < length (args_of c)
        → bytes_eq (slice_index_or (args_of c) j e).id.now (slice_index_or (args_of c) (length front) d).id.now ≡ true → j ≡ length front
    only j e lt same =
        let low : j < length (front ++ r ∷ back) = omega (arith, ap length list, length-map (args_of c) rule_of) in
        let there : slice_index_or (front ++ r ∷ back) j r ≡ rule_of (slice_index_or (args_of c) j e) =
        ap (λ rs. slice_index_or rs j r) (sym list) ∙ get_or-map rule_of (args_of c) j e r lt in
        let ids : bytes_eq (slice_index_or (front ++ r ∷ back) j r).id r.id ≡ true = rw (there, ← ap (λ x. x.id) rule_is) same in
        alone r.id front r back f b j r low ids

    own_id : is_own r.id ≡ true → (r.id ≡ [] → ⊥) × ((r.id ≡ codes "help") ⊎ (r.id ≡ codes "version") → ⊥)
    own_id own =
        let outer = both _ _ own in
        let inner = both _ _ outer.1 in
        (differs r.id [] outer.0, λ auto. elim auto [ inl e ↦ differs r.id (codes "help") inner.0 e | inr e ↦ differs r.id (codes "version") inner.1 e ])

    id_is : (slice_index_or (args_of c) (length front) d).id.now ≡ r.id
    id_is = ap (λ x. x.id) rule_is

    named : is_own r.id ≡ true → (slice_index_or (args_of c) (length front) d).id.now ≡ [] → ⊥
    named own e = (own_id own).0 (sym id_is ∙ e)

    built_not : is_own r.id ≡ true → IsAuto (slice_index_or (args_of c) (length front) d) → ⊥
    built_not own auto = (own_id own).1 (elim auto [ inl e ↦ inl (sym id_is ∙ e) | inr e ↦ inr (sym id_is ∙ e) ])

    one_value : r.range ≡ None → 1 ≤ least_values (slice_index_or (args_of c) (length front) d)
    one_value none =
        let range : (slice_index_or (args_of c) (length front) d).num_vals ≡ None = ap (λ x. x.range) rule_is ∙ none in
        rw (range, least_values) (omega arith)

    module _ (m : ArgMatches) (p : IsParsedFrom c m) where
      -- a required argument has a text
      required_text : is_own r.id ≡ true → r.action ≡ Some Set → r.range ≡ None → r.required ≡ true
          → (text : Text) × (first_of r.id (rows_of (found_of m)) ≡ Some text)
      required_text own action range required =
          let has = required_has_value c m p plain is_simple_command.globals negates (length front) d inside (ap (λ x. x.required) rule_is ∙ required)
          (ap (λ x. x.action) rule_is ∙ action) (is_simple_command.args (length front) d inside).delimiter (one_value range) only (named own) (built_not own) in
          go (first_value (found_of m) (slice_index_or (args_of c) (length front) d).id.now) refl has
        where
          go : (o : Option Text) → first_value (found_of m) (slice_index_or (args_of c) (length front) d).id.now ≡ o → is_some o ≡ true
              → (text : Text) × (first_of r.id (rows_of (found_of m)) ≡ Some text)
          go None e some = absurd (true≢false (sym some))
          go (Some text) e some = (text, ap (λ id. first_of id (rows_of (found_of m))) (sym id_is) ∙ sym (first_value-rows (found_of m) _) ∙ e)

-- a number of the command line has a text, which writes a number in its range
number_text : (c : Command) → app_of c ≡ starburst → (m : ArgMatches) → IsParsedFrom c m
    → (front back : List Rule) (name default : Text) (least most : ℕ) → arguments ≡ front ++ number_rule name least most default ∷ back
    → lacks name front ≡ true → lacks name back ≡ true → is_own name ≡ true
    → HasNumber name least most (rows_of (found_of m))
number_text c is m p front back name default least most split f b own =
    let r = number_rule name least most default in
    let e = rule_is c is front r back split f b in
    let k = length front in
    let x = d c is front r back split f b in
    let simple_arg = (is_simple_command c is).args k x (inside c is front r back split f b) in
    let valued : IsValued c k x (Unsigned least most) = record {
      inside = inside c is front r back split f b;
      action = ap (λ x. x.action) e;
      delimiter = simple_arg.delimiter;
      least = one_value c is front r back split f b refl;
      parser = ap (λ x. x.parser) e;
      named = named c is front r back split f b own;
      own = built_not c is front r back split f b own;
      alone = only c is front r back split f b;
    } in
    let a = slice_index_or (args_of c) k x in
    let len : length (texts (items_of a.default_vals)) ≡ 1 = ap (λ x. length x.defaults) e in
    let wants : WantsDefault a = (simple_arg.default_ifs, omega (arith, len, length-map (items_of a.default_vals) (λ s. s.now))) in
    let got = default_text c m p (plain c is) (is_simple_command c is).globals k x (Unsigned least most) valued wants in
    record {
      text = got.0;
      is = ap (λ id. one_of id (rows_of (found_of m))) (sym (id_is c is front r back split f b)) ∙ sym (one_text-rows (found_of m) a.id.now) ∙ got.1;
      fits = got.2;
    }

abbrev pub pages_rule : Rule
pages_rule = number_rule (codes "pages") 64 65536 (codes "1024")

abbrev pub log_rule : Rule
log_rule = number_rule (codes "log") 2097152 16777216 (codes "4194304")

abbrev pub frames_rule : Rule
frames_rule = number_rule (codes "frames") 8 65536 (codes "64")

-- what the program needs of the matches is there
pub complete : (c : Command) → app_of c ≡ starburst → (m : ArgMatches) → IsParsedFrom c m → IsComplete (rows_of (found_of m))
complete c is m p = record {
  store = required_text c is [] store_rule (create_rule ∷ pages_rule ∷ log_rule ∷ frames_rule ∷ []) refl refl refl m p refl refl refl refl;
  pages = number_text c is m p (store_rule ∷ create_rule ∷ []) (log_rule ∷ frames_rule ∷ []) (codes "pages") (codes "1024") 64 65536 refl refl refl refl;
  log = number_text c is m p (store_rule ∷ create_rule ∷ pages_rule ∷ []) (frames_rule ∷ []) (codes "log") (codes "4194304") 2097152 16777216 refl refl refl refl;
  frames = number_text c is m p (store_rule ∷ create_rule ∷ pages_rule ∷ log_rule ∷ []) [] (codes "frames") (codes "64") 8 65536 refl refl refl refl;
}
