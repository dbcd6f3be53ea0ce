-- What a parse that succeeds has of an argument, by the facts of clap.
use Rattle.std.proofs.Common.{◌≡◌, ◌∙◌, ◌<◌, ◌≤◌, ◌∷◌, ℕ, Bool, List, [], Some, None, true, false, true≢false, zero, suc, length, refl, sym, ap, subst, inl, inr, arith}
use Rattle.std.specs.Prelude.{find, option_map, slice_get}
use Rattle.std.specs.Borrow.{Bor}
use Rattle.std.specs.List.{All, slice_index_or}
use Rattle.std.specs.Str.{bytes_eq}
use Rattle.std.proofs.lemmas.List.Elements.{All-get_or}
use Rattle.std.proofs.lemmas.Slice.Eq.{bytes_eq-Decides}
use Rattle.clap.specs.Words.{Accepts, IsParsedFrom, IsPlain, SameRules, args_of, found_of, matched_of, one_text, parser_of, read_as, reading_of}
use Rattle.clap.specs.Built.{IsAuto}
use Rattle.clap.specs.Facts.{Entry, EntryPasses, PassesArg, WantsDefault, least_values, parser_of_value}
use Rattle.clap.specs.Walk.{Text}
use Rattle.clap.specs.declared.builder.action.ArgAction.TheVariants.{Count, Set}
use Rattle.clap.specs.declared.builder.arg.Arg.{Arg}
use Rattle.clap.specs.declared.builder.command.Command.{Command}
use Rattle.clap.specs.declared.builder.command.Command.TheViews.{out-Command}
use Rattle.clap.specs.declared.builder.value_parser.Reading.{Reading}
use Rattle.clap.specs.declared.builder.value_parser.ValueParser.{ValueParser}
use Rattle.clap.specs.declared.parser.matches.ArgMatches.{ArgMatches}
use Rattle.clap.specs.declared.parser.matches.MatchedArg.{MatchedArg}
use Rattle.clap.proofs.CallerLemmas.{default_present, entry_by_id, same_rules_by_id}

-- what stands at a place is what is found, or an entry before it
find_at : (xs : List Entry) (id : Text) (i : ℕ) → i < length xs → ((d : Entry) → bytes_eq (slice_index_or xs i d).0.now id ≡ true)
    → (x : MatchedArg) × (option_map (λ e. e.1) (find (λ e. bytes_eq e.0.now id) xs) ≡ Some x)
find_at [] id i lt at = absurd (omega arith)
find_at (e ∷ xs) id i lt at = go (bytes_eq e.0.now id) refl i lt at (λ j low there. find_at xs id j low there)
  where
    go : (t : Bool) → bytes_eq e.0.now id ≡ t → (k : ℕ) → k < length (e ∷ xs) → ((d : Entry) → bytes_eq (slice_index_or (e ∷ xs) k d).0.now id ≡ true)
        → ((j : ℕ) → j < length xs → ((d : Entry) → bytes_eq (slice_index_or xs j d).0.now id ≡ true) → (x : MatchedArg) × (option_map (λ e. e.1) (find (λ e. bytes_eq e.0.now id) xs) ≡ Some x))
        → (x : MatchedArg) × (option_map (λ e. e.1) (find (λ e. bytes_eq e.0.now id) (e ∷ xs)) ≡ Some x)
    go true t k low there rec = (e.1, rw t refl)
    go false t zero low there rec = absurd (true≢false (sym (there e) ∙ t))
    go false t (suc j) low there rec =
        let found = rec j (omega arith) there in
        (found.0, rw t found.1)

text_here : (P : Bor Text → Type 0) (vs : List (Bor Text)) → 0 < length vs → All P vs → (v : Bor Text) × (slice_get vs 0 ≡ Some v) × P v
text_here P [] lt h = absurd (omega arith)
text_here P (v ∷ vs) lt h = (v, refl, All-get_or P (v ∷ vs) 0 v (omega arith) h)

text_read : (x : MatchedArg) (how : Reading) (v : Bor Text) → slice_get x.vals.items 0 ≡ Some v → x.reading ≡ how
    → option_map (λ s. read_as x.reading s.now) (slice_get x.vals.items 0) ≡ Some (read_as how v.now)
text_read x how v first is = rw (first, is) refl

-- an argument of the command that takes a value of the parser q in each use, and whose id is its own
pub record IsValued (c : Command) (k : ℕ) (d : Arg) (q : ValueParser) : Type 0 where
  pub inside : k < length (args_of c)
  pub action : (slice_index_or (args_of c) k d).action ≡ Some Set
  pub delimiter : (slice_index_or (args_of c) k d).val_delim ≡ None
  pub least : 1 ≤ least_values (slice_index_or (args_of c) k d)
  pub parser : (slice_index_or (args_of c) k d).value_parser ≡ Some q
  pub named : (slice_index_or (args_of c) k d).id.now ≡ [] → ⊥
  pub own : IsAuto (slice_index_or (args_of c) k d) → ⊥
  pub alone : (j : ℕ) (e : Arg) → j < length (args_of c)
      → bytes_eq (slice_index_or (args_of c) j e).id.now (slice_index_or (args_of c) k d).id.now ≡ true → j ≡ k

module _ (c : Command) (m : ArgMatches) (p : IsParsedFrom c m) (plain : IsPlain c) (globals : (out-Command c).has_globals ≡ false)
    (k : ℕ) (d : Arg) (q : ValueParser) (valued : IsValued c k d q) where
  abbrev arg : Arg
  arg = slice_index_or (args_of c) k d

  same : (j : ℕ) (x : Arg) → j < length (args_of p.built) → slice_index_or (args_of p.built) j x ≡ x → bytes_eq x.id.now arg.id.now ≡ true → SameRules arg x
  same = same_rules_by_id c m p k d valued.inside valued.alone valued.own

  same_parser : (x : Arg) → SameRules arg x → parser_of x ≡ q
  same_parser x s = ap parser_of_value (s.parser q valued.parser)

  no_group : (e : Entry) → e.0.now ≡ arg.id.now → EntryPasses p.built e → e.1.is_group ≡ true → ⊥
  no_group e key pass group = elim (pass.3 group) [
    | inl empty ↦ valued.named (sym key ∙ empty)
    | inr has ↦
        let bad : 0 < 0 = rw (p.from.plain plain).1 at has in
        omega arith
  ]

  has_value : (e : Entry) → e.0.now ≡ arg.id.now → EntryPasses p.built e → 0 < length e.1.vals.items
  has_value e key pass = elim pass.1 [
    | inl group ↦ absurd (no_group e key pass group.0)
    | inr (inl some) ↦ some
    | inr (inr (inl counts)) ↦
        let any = counts.1 in
        let s = same any.0 any.1 any.2 any.3 (rw key at any.4.0) in
        let set : any.1.action ≡ Some Set = s.action Set valued.action in
        let bad : Set ≡ Count = rw set at any.4.1 in
        cc
    | inr (inr (inr any)) ↦
        let s = same any.0 any.1 any.2 any.3 (rw key at any.4.0) in
        elim any.4.1 [
          | inl none ↦
              let least = s.least valued.action valued.least in
              absurd (omega arith)
          | inr splits ↦
              let bad : false ≡ true = rw (s.val_delim, valued.delimiter) at splits in
              cc
        ]
  ]

  reading : (e : Entry) → e.0.now ≡ arg.id.now → EntryPasses p.built e → e.1.reading ≡ reading_of q
  reading e key pass = elim pass.4 [
    | inl group ↦ absurd (no_group e key pass group)
    | inr any ↦
        let s = same any.0 any.1 any.2 any.3 (rw key at any.4.0) in
        sym any.4.1 ∙ ap reading_of (same_parser any.1 s)
  ]

  accepted : (v : Text) → PassesArg p.built arg.id.now v → Accepts arg.ignore_case q v
  accepted v any =
      let s = same any.0 any.1 any.2 any.3 any.4.0 in
      let as_q : Accepts any.1.ignore_case q v = subst (λ (w : ValueParser). Accepts any.1.ignore_case w v) (same_parser any.1 s) any.4.1 in
      subst (λ (b : Bool). Accepts b q v) s.ignore_case as_q

  texts_pass : (e : Entry) → e.0.now ≡ arg.id.now → EntryPasses p.built e → All (λ v. PassesArg p.built arg.id.now v.now) e.1.vals.items
  texts_pass e key pass = elim pass.0 [
    | inl group ↦ absurd (no_group e key pass group)
    | inr all ↦ subst (λ (id : Text). All (λ v. PassesArg p.built id v.now) e.1.vals.items) key all
  ]

  -- where the argument has an entry, it has a text, which passed its parser
  entry_text : (x : MatchedArg) → matched_of (found_of m) arg.id.now ≡ Some x
      → (text : Text) × (one_text (found_of m) arg.id.now ≡ Some (read_as (reading_of q) text)) × Accepts arg.ignore_case q text
  entry_text x found =
      let parsed = p.parsed (p.from.globals ∙ globals) in
      let got = entry_by_id (EntryPasses p.built) (found_of m).entries.items arg.id.now x parsed.values found in
      let key : got.0.0.now ≡ arg.id.now = (bytes_eq-Decides got.0.0.now arg.id.now).0 got.2 in
      let first = text_here (λ v. PassesArg p.built arg.id.now v.now) got.0.1.vals.items (has_value got.0 key got.3) (texts_pass got.0 key got.3) in
      let is = text_read got.0.1 (reading_of q) first.0 first.1 (reading got.0 key got.3) in
      let here : matched_of (found_of m) arg.id.now ≡ Some got.0.1 = found ∙ ap Some (sym got.1) in
      (first.0.now, rw here is, accepted first.0.now first.2)

  -- so an argument with a default has one
  pub default_text : WantsDefault arg
      → (text : Text) × (one_text (found_of m) arg.id.now ≡ Some (read_as (reading_of q) text)) × Accepts arg.ignore_case q text
  default_text wants =
      let has = default_present c m p globals k d valued.inside wants in
      let entry = find_at (found_of m).entries.items arg.id.now has.0 has.1 has.2 in
      entry_text entry.0 entry.1
