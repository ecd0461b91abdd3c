-- What holds of a program that bytes spell: each field is as it may be, and all counts and lengths are of 32 bits.
use Rattle.std.proofs.Common.{◌≡◌, ℕ, ◌≤◌, ◌<◌, Bool, true, false, List, [], ◌∷◌, ◌++◌, length, All, Option, Some, None, is_some, refl, sym, ap, subst, ◌∙◌, arith, not, ◌&&◌, nat_lt, nat_le, codes}
use Rattle.std.specs.Prelude.{⊤}
use Rattle.std.specs.Str.{chars}
use Rattle.std.proofs.lemmas.Bool.Decides.{nat_tests}
use Rattle.std.proofs.lemmas.List.Elements.{All-push}
use Rattle.yarn_base.specs.Name.{is_name_of, is_variable_of}
use Rattle.yarn_value.specs.declared.base.BaseLine.{BaseLine}
use Rattle.yarn_value.specs.declared.signature.Signature.{Signature}
use Rattle.yarn_value.specs.declared.value.Kind.{Kind}
use Rattle.yarn_value.specs.declared.value.Kind.TheVariants as kind
use Rattle.yarn_value.specs.declared.value.Value.{Value}
use Rattle.yarn_value.specs.Builtins.{builtin_named}
use Rattle.yarn_expr.specs.Word.{is_reserved}
use Rattle.yarn_code.specs.declared.program.CodeNode.{CodeNode}
use Rattle.yarn_code.specs.declared.program.Variable.{Variable}
use Rattle.yarn_code.specs.declared.program.Program.{Program}
use Rattle.yarn_code.specs.Fields.{IsFitting, IsWord, IsVariableField, IsFunctionField, IsNodeField, IsLineField, IsNodeWords, IsLineWords, AreUnique, HasFields, FitsFile, names_of, function_names, titles_of, ids_of}
use Rattle.yarn_code.specs.Format.{◌>>=◌, Ends, U32, number_bytes, times}
use Rattle.yarn_code.specs.Layout.{is_new, kind_of_number, value_of, variable, kinds, kind_field, is_host_name, function, instructions, node, base_line, file_name, many, program_file}
use Rattle.yarn_code.specs.Spelling.{Spells, IsNewer}
use Rattle.yarn_code.proofs.EncodingLemmas.{same_bytes}
use Rattle.yarn_code.proofs.NameLemmas.{and_true, AreUnique-push, names-push, functions-push, titles-push, ids-push}
use Rattle.yarn_code.proofs.ProgramParts.{behind_files, behind_variables, behind_functions, behind_nodes, behind_lines}
use Rattle.yarn_code.proofs.SpelledCode.{HasSpelling, spelled_parts, times_hold, many_hold, few_is, short_is, signed_fits, IsGoodCoded, coded_holds}

none : {A : Type 0} (P : A → Type 0) → All P []
none P k d lt = absurd (omega (arith, lt))

push_unique : (names more : List (List ℕ)) (name : List ℕ) → more ≡ names ++ name ∷ [] → AreUnique names → is_new names name ≡ true → AreUnique more
push_unique names more name e u new = subst AreUnique (sym e) (AreUnique-push names name u new)

-- ---- files

abbrev AreFiles : List (List ℕ) → Type 0
AreFiles files = All (λ name. IsWord (length name)) files

file_more : (front : List (List ℕ)) (x : List ℕ) → AreFiles front → HasSpelling (file_name front) x → AreFiles (front ++ x ∷ [])
file_more front x all (bytes, (t, rest, is, at, (z, e))) = All-push (λ name. IsWord (length name)) front x all (subst (λ name. IsWord (length name)) (sym e) is.short)

-- ---- variables

value_fits : (k : Kind) (v : Value) → HasSpelling (value_of k) v → IsFitting v
value_fits kind.Number v (bytes, (n, rest, is, at, (z, e))) = subst IsFitting (sym e) (signed_fits n is.small)
value_fits kind.Str v (bytes, (t, rest, is, at, (z, e))) = subst IsFitting (sym e) (short_is t is.passes)
value_fits kind.Truth v (bytes, (n, rest, is, at, (z, e))) = subst IsFitting (sym e) tt

abbrev IsVariable : List Variable → Variable → Type 0
IsVariable before v = IsVariableField v × (is_new (names_of before) v.name ≡ true) × IsWord (length v.name)

variable_holds : (before : List Variable) (v : Variable) → HasSpelling (variable before) v → IsVariable before v
unfolding variable
variable_holds before v (bytes, (t, r1, is, at, (k, r2, ok, at', p))) =
    let s = spelled_parts (value_of (kind_of_number k)) (λ initial. Ends (record { name = t; initial = initial })) r2 v p in
    let tests = and_true (is_variable_of (chars t)) (is_new (names_of before) t) is.passes in
    subst (IsVariable before) (sym s.2.1.1) (record { named = tests.0; fits = value_fits (kind_of_number k) s.0 s.1 }, tests.1, is.short)

abbrev AreVariables : List Variable → Type 0
AreVariables vs = All IsVariableField vs × AreUnique (names_of vs) × All (λ v. IsWord (length v.name)) vs

variable_more : (front : List Variable) (x : Variable) → AreVariables front → HasSpelling (variable front) x → AreVariables (front ++ x ∷ [])
variable_more front x all h =
    let is = variable_holds front x h in
    (All-push IsVariableField front x all.0 is.0, push_unique (names_of front) (names_of (front ++ x ∷ [])) x.name (names-push front x) all.1 is.1, All-push (λ v. IsWord (length v.name)) front x all.2 is.2)

-- ---- functions

not_true : (b : Bool) → not b ≡ true → b ≡ false
not_true true e = absurd cc
not_true false e = refl

nothing : {A : Type 0} (o : Option A) → not (is_some o) ≡ true → o ≡ None
nothing None e = refl
nothing (Some x) e = absurd cc

abbrev IsFunction : List Signature → Signature → Type 0
IsFunction before s = IsFunctionField s × (is_new (function_names before) s.name ≡ true) × IsWord (length s.name)

function_holds : (before : List Signature) (s : Signature) → HasSpelling (function before) s → IsFunction before s
unfolding function
function_holds before f (bytes, (t, r1, is, at, (count, r2, few, at', p))) =
    let s = spelled_parts (times count kinds []) (λ params. kind_field >>= λ result. Ends (record { name = t; params = params; result = result })) r2 f p in
    let counted = times_hold kinds (λ all. ⊤) (λ front x all h. tt) count [] s.0 s.1 tt in
    let tests = and_true (is_host_name t) (is_new (function_names before) t) is.passes in
    let named = and_true (is_name_of (chars t)) (not (is_reserved t) && not (is_some (builtin_named t))) tests.0 in
    let host = and_true (not (is_reserved t)) (not (is_some (builtin_named t))) named.1 in
    subst (IsFunction before) (sym s.2.1.4.1) (
      record {
        named = named.0;
        free = not_true (is_reserved t) host.0;
        host = nothing (builtin_named t) host.1;
        few = omega (arith, counted.1, few_is count few.passes);
      },
      tests.1,
      is.short,
    )

abbrev AreFunctions : List Signature → Type 0
AreFunctions fs = All IsFunctionField fs × AreUnique (function_names fs) × All (λ s. IsWord (length s.name)) fs

function_more : (front : List Signature) (x : Signature) → AreFunctions front → HasSpelling (function front) x → AreFunctions (front ++ x ∷ [])
function_more front x all h =
    let is = function_holds front x h in
    (All-push IsFunctionField front x all.0 is.0, push_unique (function_names front) (function_names (front ++ x ∷ [])) x.name (functions-push front x) all.1 is.1, All-push (λ s. IsWord (length s.name)) front x all.2 is.2)

-- ---- nodes

below_is : (n len : ℕ) → nat_lt n len ≡ true → n < len
below_is n len e = grind (arith, nat_tests)

some_is : (n : ℕ) → nat_le 1 n ≡ true → 1 ≤ n
some_is n e = grind (arith, nat_tests)

abbrev IsNode : Program → List CodeNode → CodeNode → Type 0
IsNode p before n = IsNodeField p n × (is_new (titles_of before) n.title ≡ true) × IsNodeWords n

node_holds : (p : Program) (before : List CodeNode) (n : CodeNode) → HasSpelling (node (length p.files) before) n → IsNode p before n
unfolding node
node_holds p before n (bytes, (t, r1, is, at, (file, r2, place, at', (count, r3, some, at'', q)))) =
    let s = spelled_parts (times count instructions []) (λ code. Ends (record { title = t; file = file; code = code })) r3 n q in
    let code = times_hold instructions (λ all. All IsGoodCoded all) (λ front x all h. All-push IsGoodCoded front x all (coded_holds x h)) count [] s.0 s.1 (none IsGoodCoded) in
    let tests = and_true (is_name_of (chars t)) (is_new (titles_of before) t) is.passes in
    subst (IsNode p before) (sym s.2.1.1) (
      record {
        named = tests.0;
        filed = below_is file (length p.files) place.passes;
        some = omega (arith, code.1, some_is count some.passes);
        operands = λ k d lt. (code.0 k d lt).0;
      },
      tests.1,
      record { title = is.short; count = omega (arith, code.1, some.small); code = λ k d lt. (code.0 k d lt).1 },
    )

abbrev AreNodes : Program → List CodeNode → Type 0
AreNodes p ns = All (IsNodeField p) ns × AreUnique (titles_of ns) × All IsNodeWords ns

node_more : (p : Program) (front : List CodeNode) (x : CodeNode) → AreNodes p front → HasSpelling (node (length p.files) front) x → AreNodes p (front ++ x ∷ [])
node_more p front x all h =
    let is = node_holds p front x h in
    (All-push (IsNodeField p) front x all.0 is.0, push_unique (titles_of front) (titles_of (front ++ x ∷ [])) x.title (titles-push front x) all.1 is.1, All-push IsNodeWords front x all.2 is.2)

-- ---- lines

abbrev IsLine : Program → List BaseLine → BaseLine → Type 0
IsLine p before l = IsLineField p l × (is_new (ids_of before) l.id ≡ true) × IsLineWords l

line_holds : (p : Program) (before : List BaseLine) (l : BaseLine) → HasSpelling (base_line (length p.files) (length p.nodes) before) l → IsLine p before l
unfolding base_line
line_holds p before l (bytes, (id, r1, is, at, (holes, r2, few, at2, (t, r3, filled, at3, (file, r4, filed, at4, (node, r5, within, at5, (line, r6, small, at6, (z, e)))))))) =
    let tests = and_true (nat_le 1 (length id)) (is_new (ids_of before) id) is.passes in
    subst (IsLine p before) (sym e) (
      record {
        named = some_is (length id) tests.0;
        text = record { few = few_is holes few.passes; template = filled.passes };
        filed = below_is file (length p.files) filed.passes;
        within = below_is node (length p.nodes) within.passes;
      },
      tests.1,
      record { id = is.short; text = filled.short; line = small.small },
    )

abbrev AreLines : Program → List BaseLine → Type 0
AreLines p ls = All (IsLineField p) ls × AreUnique (ids_of ls) × All IsLineWords ls

line_more : (p : Program) (front : List BaseLine) (x : BaseLine) → AreLines p front → HasSpelling (base_line (length p.files) (length p.nodes) front) x → AreLines p (front ++ x ∷ [])
line_more p front x all h =
    let is = line_holds p front x h in
    (All-push (IsLineField p) front x all.0 is.0, push_unique (ids_of front) (ids_of (front ++ x ∷ [])) x.id (ids-push front x) all.1 is.1, All-push IsLineWords front x all.2 is.2)

-- ---- programs

carried : (p q : Program) → p ≡ q → HasFields q × FitsFile q → HasFields p × FitsFile p
carried p q e h = subst (λ (p : Program). HasFields p × FitsFile p) (sym e) h

pub spelled_holds : (bytes : List ℕ) (p : Program) → Spells bytes p → HasFields p × FitsFile p
unfolding program_file
spelled_holds bytes p (mark, rest, is, at, q) =
    let files = spelled_parts (many file_name) behind_files rest p q in
    let variables = spelled_parts (many variable) (behind_variables files.0) files.2.0 p files.2.1 in
    let functions = spelled_parts (many function) (behind_functions files.0 variables.0) variables.2.0 p variables.2.1 in
    let nodes = spelled_parts (many (node (length files.0))) (behind_nodes files.0 variables.0 functions.0) functions.2.0 p functions.2.1 in
    let lines = spelled_parts (many (base_line (length files.0) (length nodes.0))) (behind_lines files.0 variables.0 functions.0 nodes.0) nodes.2.0 p nodes.2.1 in
    let made : Program = record { files = files.0; variables = variables.0; functions = functions.0; nodes = nodes.0; lines = lines.0 } in
    let f = many_hold file_name AreFiles file_more files.0 files.1 (none (λ name. IsWord (length name))) in
    let v = many_hold variable AreVariables variable_more variables.0 variables.1 (none IsVariableField, tt, none (λ v. IsWord (length v.name))) in
    let s = many_hold function AreFunctions function_more functions.0 functions.1 (none IsFunctionField, tt, none (λ s. IsWord (length s.name))) in
    let n = many_hold (node (length files.0)) (AreNodes made) (node_more made) nodes.0 nodes.1 (none (IsNodeField made), tt, none IsNodeWords) in
    let l = many_hold (base_line (length files.0) (length nodes.0)) (AreLines made) (line_more made) lines.0 lines.1 (none (IsLineField made), tt, none IsLineWords) in
    carried p made lines.2.1.1 (
      record {
        variables = v.0.0;
        variables_differ = v.0.1;
        functions = s.0.0;
        functions_differ = s.0.1;
        nodes = n.0.0;
        nodes_differ = n.0.1;
        lines = l.0.0;
        lines_differ = l.0.1;
      },
      record {
        files = f.1;
        names = f.0;
        variables = v.1;
        variable_names = v.0.2;
        functions = s.1;
        function_names = s.0.2;
        node_count = n.1;
        nodes = n.0.2;
        line_count = l.1;
        lines = l.0.2;
      },
    )

-- no spelling of a program begins as a newer format does
pub spelled_not_newer : (bytes : List ℕ) (p : Program) → Spells bytes p → IsNewer bytes → ⊥
unfolding program_file
spelled_not_newer bytes p (mark, rest, is, at, q) (digit, more, low, high, e) =
    let mark_is : number_bytes U32 mark ≡ codes "YSP1" = same_bytes (number_bytes U32 mark) (codes "YSP1") is.passes in
    let front : codes "YSP1" ++ rest ≡ codes "YSP" ++ digit ∷ more = ap (λ l. l ++ rest) (sym mark_is) ∙ sym at ∙ e in
    let same : 49 ≡ digit = cc in
    omega (arith, same, low)
