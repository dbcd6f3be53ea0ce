-- Worked examples of lines, which the definitions compute.
use Rattle.std.specs.Prelude.{◌≡◌, true, false, codes, refl, [], ◌∷◌, ◌++◌, replicate, take}
use Rattle.std.proofs.Common.{inl}
use Rattle.sb_grammar.specs.Command.TheVariants as command
use Rattle.sb_tokens.specs.declared.token.Token.TheVariants as token
use Rattle.sb_grammar.specs.Columns.{is_long, Says, Bad, IsItem}
use Rattle.sb_lines.specs.Lines.{whole_lines, lines_of, without_return, asks, asking, most_held, Commands}

-- ---- lines
a_last_line_without_its_end : lines_of (codes "a\n\nb") ≡ codes "a" ∷ [] ∷ codes "b" ∷ []
a_last_line_without_its_end = refl

no_line_behind_the_last_end : lines_of (codes "a\nb\n") ≡ codes "a" ∷ codes "b" ∷ []
no_line_behind_the_last_end = refl

a_line_that_has_begun_isn't_whole : whole_lines (codes "a\nb") ≡ codes "a" ∷ []
a_line_that_has_begun_isn't_whole = refl

one_return_of_two : without_return (codes "a\r\r") ≡ codes "a\r"
one_return_of_two = refl

a_return_within_the_line : without_return (codes "a\rb") ≡ codes "a\rb"
a_return_within_the_line = refl

-- ---- lines that ask for a reply
comments_and_blank_lines_are_passed_over : asking (lines_of (codes "a\r\n \t\n # c\nb")) ≡ codes "a" ∷ codes "b" ∷ []
comments_and_blank_lines_are_passed_over = refl

a_sign_behind_a_byte_begins_no_comment : asks (codes "a # c") ≡ true
a_sign_behind_a_byte_begins_no_comment = refl

a_long_blank_line_asks : asks (replicate 4097 32) ≡ true
a_long_blank_line_asks = refl

a_short_one_doesn't : asks (replicate 4096 32) ≡ false
a_short_one_doesn't = refl

a_long_comment_asks : asks (replicate 4097 35) ≡ true
a_long_comment_asks = refl

-- ---- lines that are too long
a_line_of_4096_bytes : is_long (without_return (replicate 4096 97 ++ 13 ∷ [])) ≡ false
a_line_of_4096_bytes = refl

a_line_of_4097_bytes : is_long (without_return (replicate 4097 97)) ≡ true
a_line_of_4097_bytes = refl

what_is_held_of_a_longer_line : is_long (without_return (take most_held (replicate 4097 97 ++ 13 ∷ 97 ∷ []))) ≡ true
what_is_held_of_a_longer_line = refl

a_byte_less_doesn't_tell : is_long (without_return (take 4097 (replicate 4096 97 ++ 13 ∷ 97 ∷ []))) ≡ false
a_byte_less_doesn't_tell = refl

-- ---- what lines say
says_begin : IsItem (codes "begin") (Says command.Begin)
says_begin = (refl, record { tokens = record { token = token.Word (codes "begin"); column = 1 } ∷ []; column = 6; is_row = (5, refl, refl, (refl, refl)); spelled = refl })

says_commit : IsItem (codes " commit") (Says command.Commit)
says_commit = (refl, record { tokens = record { token = token.Word (codes "commit"); column = 2 } ∷ []; column = 8; is_row = (6, refl, refl, (refl, refl)); spelled = refl })

what_an_input_says : Commands (codes "# two commands\nbegin\r\n\n commit") (Says command.Begin ∷ Says command.Commit ∷ [])
what_an_input_says = (says_begin, (says_commit, tt))

a_long_line_is_bad_at_4097 : Commands (replicate 4097 32 ++ 13 ∷ 10 ∷ codes "begin") (Bad 4097 ∷ Says command.Begin ∷ [])
a_long_line_is_bad_at_4097 = (inl (refl, refl), (says_begin, tt))
