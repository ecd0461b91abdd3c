-- How many different names there are.
use Rattle.std.proofs.Common.{◌≡◌, ◌↔◌, ◌≤◌, ℕ, zero, suc, ◌+◌, ◌-◌, List, [], ◌∷◌, ◌++◌, length, Bool, true, false, cond, nat_eq, ◌⊎◌, inl, inr, Some, None, All, refl, sym, ap, ◌∙◌, subst, append_assoc, append-nil, arith, length-append}
use Rattle.std.proofs.Math.Dec.{eqb-suc-zero}
use Rattle.std.proofs.lemmas.Bool.{false_from_ne_true}
use Rattle.std.proofs.lemmas.List.Elements.{All-nil, All-cons, All-head, All-tail, All-append, All-weaker}
use Rattle.yarn_base.specs.declared.Place.{Place}
use Rattle.yarn_tree.specs.Checks.{extra_name}
use Rattle.yarn_tree.specs.Laws.{IsAmong, AreFew, IsNewBehind, names_in}
use Rattle.yarn_tree.specs.Names.{NameAt, no_name, and_name}
use Rattle.yarn_tree.proofs.SightLemmas.{among-left, among-right, among-append, Knows, knows-none, knows-more, Fresh, fresh-distinct, distinct-fresh}

abbrev Names : Type 0
Names = List (List ℕ)

-- Different names among others are no more than these.

abbrev NoTwice : Names → Type 0
NoTwice [] = Unit {0}
NoTwice (x ∷ xs) = (IsAmong xs x → ⊥) × NoTwice xs

fresh-once : (done xs : Names) → Fresh done xs → NoTwice xs × ((z : List ℕ) → IsAmong done z → IsAmong xs z → ⊥)
fresh-once done [] fresh = (tt, λ z early late. absurd late)
fresh-once done (x ∷ xs) fresh =
    let rest = fresh-once (done ++ x ∷ []) xs fresh.1 in (
      (λ is. rest.1 x (among-right done (x ∷ []) x (inl refl)) is, rest.0),
      apart rest.1,
    )
  where
    apart : ((z : List ℕ) → IsAmong (done ++ x ∷ []) z → IsAmong xs z → ⊥) → (z : List ℕ) → IsAmong done z → IsAmong (x ∷ xs) z → ⊥
    apart later z early (inl e) = fresh.0 (subst (IsAmong done) (sym e) early)
    apart later z early (inr is) = later z (among-left done (x ∷ []) z early) is

record Without (x : List ℕ) (ys : Names) : Type 0 where
  pub rest : Names
  pub shorter : length ys ≡ suc (length rest)
  pub keeps : (z : List ℕ) → IsAmong ys z → (x ≡ z → ⊥) → IsAmong rest z

without : (x : List ℕ) (ys : Names) → IsAmong ys x → Without x ys
without x [] is = absurd is
without x (y ∷ ys) (inl e) = record { rest = ys; shorter = refl; keeps = keeps }
  where
    keeps : (z : List ℕ) → IsAmong (y ∷ ys) z → (x ≡ z → ⊥) → IsAmong ys z
    keeps z (inl same) other = absurd (other (sym e ∙ same))
    keeps z (inr is) other = is
without x (y ∷ ys) (inr is) = of (without x ys is)
  where
    of : Without x ys → Without x (y ∷ ys)
    of w = record { rest = y ∷ w.rest; shorter = ap suc w.shorter; keeps = keeps }
      where
        keeps : (z : List ℕ) → IsAmong (y ∷ ys) z → (x ≡ z → ⊥) → IsAmong (y ∷ w.rest) z
        keeps z (inl same) other = inl same
        keeps z (inr is) other = inr (w.keeps z is other)

rest-among : (x : List ℕ) (xs ys : Names) (w : Without x ys) → (IsAmong xs x → ⊥) → All (IsAmong ys) xs → All (IsAmong w.rest) xs
rest-among x [] ys w new all = All-nil (IsAmong w.rest)
rest-among x (z ∷ xs) ys w new all =
    All-cons (IsAmong w.rest) z xs (w.keeps z (All-head (IsAmong ys) z xs all) (λ e. new (inl (sym e))))
    (rest-among x xs ys w (λ is. new (inr is)) (All-tail (IsAmong ys) z xs all))

no-more : (xs ys : Names) → NoTwice xs → All (IsAmong ys) xs → length xs ≤ length ys
no-more [] ys once all = omega arith
no-more (x ∷ xs) ys once all =
    let w = without x ys (All-head (IsAmong ys) x xs all) in
    let rest = no-more xs w.rest once.1 (rest-among x xs ys w once.0 (All-tail (IsAmong ys) x xs all)) in
    let e = w.shorter in
    omega (arith, rest, e)

fresh-more : (xs ys : Names) → Fresh [] xs → All (IsAmong ys) xs → length xs ≤ length ys
fresh-more xs ys fresh all = no-more xs ys (fresh-once [] xs fresh).0 all

fresh-and : (done xs : Names) (x : List ℕ) → Fresh done xs → (IsAmong (done ++ xs) x → ⊥) → Fresh done (xs ++ x ∷ [])
fresh-and done [] x fresh new = (λ is. new (subst (λ (l : Names). IsAmong l x) (sym (append-nil done)) is), tt)
fresh-and done (y ∷ xs) x fresh new =
    (fresh.0, fresh-and (done ++ y ∷ []) xs x fresh.1 (λ is. new (subst (λ (l : Names). IsAmong l x) (append_assoc done (y ∷ []) xs) is)))

among-all : (P : List ℕ → Type 0) (xs : Names) (x : List ℕ) → All P xs → IsAmong xs x → P x
among-all P [] x all is = absurd is
among-all P (y ∷ xs) x all (inl e) = subst P e (All-head P y xs all)
among-all P (y ∷ xs) x all (inr is) = among-all P xs x (All-tail P y xs all) is

all-left : (P : List ℕ → Type 0) (a b : Names) → All P (a ++ b) → All P a
all-left P [] b all = All-nil P
all-left P (x ∷ a) b all = All-cons P x a (All-head P x (a ++ b) all) (all-left P a b (All-tail P x (a ++ b) all))

all-right : (P : List ℕ → Type 0) (a b : Names) → All P (a ++ b) → All P b
all-right P [] b all = all
all-right P (x ∷ a) b all = all-right P a b (All-tail P x (a ++ b) all)

self-all : (done xs : Names) → All (IsAmong (done ++ xs)) xs
self-all done [] = All-nil (IsAmong (done ++ []))
self-all done (x ∷ xs) =
    All-cons (IsAmong (done ++ x ∷ xs)) x xs (among-right done (x ∷ xs) x (inl refl))
    (subst (λ (l : Names). All (IsAmong l) xs) (append_assoc done (x ∷ []) xs) (self-all (done ++ x ∷ []) xs))

length-and : (done : Names) (x : List ℕ) → length (done ++ x ∷ []) ≡ length done + 1
length-and done x = length-append done (x ∷ [])

-- One name more.

step-known : (left : ℕ) (known : List ℕ → Bool) (x : NameAt) (xs : List NameAt) → known x.0 ≡ true → extra_name left known (x ∷ xs) ≡ extra_name left known xs
step-known left known x xs is =
    ap (λ (t : Bool). cond t (extra_name left known xs) (cond (nat_eq left 0) (Some x.1) (extra_name (left - 1) (and_name x.0 known) xs))) is

step-extra : (known : List ℕ → Bool) (x : NameAt) (xs : List NameAt) → known x.0 ≡ false → extra_name 0 known (x ∷ xs) ≡ Some x.1
step-extra known x xs is =
    ap (λ (t : Bool). cond t (extra_name 0 known xs) (cond (nat_eq 0 0) (Some x.1) (extra_name (0 - 1) (and_name x.0 known) xs))) is

step-new : (left : ℕ) (known : List ℕ → Bool) (x : NameAt) (xs : List NameAt) → known x.0 ≡ false →
    extra_name (suc left) known (x ∷ xs) ≡ extra_name left (and_name x.0 known) xs
step-new left known x xs is =
    let e : suc left - 1 ≡ left = omega arith in
    ap (λ (t : Bool). cond t (extra_name (suc left) known xs) (cond (nat_eq (suc left) 0) (Some x.1) (extra_name (suc left - 1) (and_name x.0 known) xs))) is
    ∙ ap (λ (t : Bool). cond t (Some x.1) (extra_name (suc left - 1) (and_name x.0 known) xs)) (eqb-suc-zero left)
    ∙ ap (λ (k : ℕ). extra_name k (and_name x.0 known) xs) e

-- Few names.

record Few (left : ℕ) (done : Names) (xs : List NameAt) : Type 0 where
  pub all : Names
  pub few : length all ≤ length done + left
  pub old : All (IsAmong all) done
  pub new : All (IsAmong all) (names_in xs)

found-few : (left : ℕ) (known : List ℕ → Bool) (done : Names) (xs : List NameAt) → Knows known done → extra_name left known xs ≡ None → Few left done xs
found-few left known done [] knows none =
    record { all = done; few = omega arith; old = self-all [] done; new = All-nil (IsAmong done) }
found-few left known done (x ∷ xs) knows none = by_test (λ l k d. found-few l k d xs) (known x.0) refl
  where
    Later : Type 0
    Later = (l : ℕ) (k : List ℕ → Bool) (d : Names) → Knows k d → extra_name l k xs ≡ None → Few l d xs

    by_left : Later → (l : ℕ) → known x.0 ≡ false → extra_name l known (x ∷ xs) ≡ None → Few l done (x ∷ xs)
    by_left later zero is told = let h : Some x.1 ≡ None = sym (step-extra known x xs is) ∙ told in absurd cc
    by_left later (suc l) is told =
        let rest = later l (and_name x.0 known) (done ++ x.0 ∷ []) (knows-more known done x.0 knows) (sym (step-new l known x xs is) ∙ told) in
        let e = length-and done x.0 in
        let h = rest.few in
        record {
          all = rest.all;
          few = omega (arith, e, h);
          old = all-left (IsAmong rest.all) done (x.0 ∷ []) rest.old;
          new = All-cons (IsAmong rest.all) x.0 (names_in xs) (All-head (IsAmong rest.all) x.0 [] (all-right (IsAmong rest.all) done (x.0 ∷ []) rest.old)) rest.new;
        }

    by_test : Later → (t : Bool) → known x.0 ≡ t → Few left done (x ∷ xs)
    by_test later true is =
        let rest = later left known done knows (sym (step-known left known x xs is) ∙ none) in
        record {
          all = rest.all;
          few = rest.few;
          old = rest.old;
          new = All-cons (IsAmong rest.all) x.0 (names_in xs) (among-all (IsAmong rest.all) done x.0 rest.old (knows.told x.0 is)) rest.new;
        }
    by_test later false is = by_left later left is none

few-found : (left : ℕ) (known : List ℕ → Bool) (done : Names) (xs : List NameAt) → Knows known done → Fresh [] done → Few left done xs →
    extra_name left known xs ≡ None
few-found left known done [] knows fresh is = refl
few-found left known done (x ∷ xs) knows fresh is = by_test (λ l k d. few-found l k d xs) (known x.0) refl
  where
    Later : Type 0
    Later = (l : ℕ) (k : List ℕ → Bool) (d : Names) → Knows k d → Fresh [] d → Few l d xs → extra_name l k xs ≡ None

    here : IsAmong is.all x.0
    here = All-head (IsAmong is.all) x.0 (names_in xs) is.new

    more : All (IsAmong is.all) (names_in xs)
    more = All-tail (IsAmong is.all) x.0 (names_in xs) is.new

    by_left : Later → (l : ℕ) → known x.0 ≡ false → length is.all ≤ length done + l → extra_name l known (x ∷ xs) ≡ None
    by_left later l test few = by_count l few
      where
        new : Fresh [] (done ++ x.0 ∷ [])
        new = fresh-and [] done x.0 fresh (λ among. let e : true ≡ false = sym (knows.has x.0 among) ∙ test in absurd cc)

        old : All (IsAmong is.all) (done ++ x.0 ∷ [])
        old = All-append (IsAmong is.all) done (x.0 ∷ []) is.old (All-cons (IsAmong is.all) x.0 [] here (All-nil (IsAmong is.all)))

        by_count : (k : ℕ) → length is.all ≤ length done + k → extra_name k known (x ∷ xs) ≡ None
        by_count zero le =
            let h = fresh-more (done ++ x.0 ∷ []) is.all new old in
            let e = length-and done x.0 in
            absurd (omega (arith, le, h, e))
        by_count (suc k) le =
            let e = length-and done x.0 in
            step-new k known x xs test
            ∙ later k (and_name x.0 known) (done ++ x.0 ∷ []) (knows-more known done x.0 knows) new
            (record { all = is.all; few = omega (arith, le, e); old = old; new = more })

    by_test : Later → (t : Bool) → known x.0 ≡ t → extra_name left known (x ∷ xs) ≡ None
    by_test later true test =
        step-known left known x xs test ∙ later left known done knows fresh (record { all = is.all; few = is.few; old = is.old; new = more })
    by_test later false test = by_left later left test is.few

pub few-names : (left : ℕ) (xs : List NameAt) → (extra_name left no_name xs ≡ None) ↔ AreFew left (names_in xs)
few-names left xs = (
  λ none. let f = found-few left no_name [] xs knows-none none in record { known = f.all; few = let h = f.few in omega (arith, h); all = f.new },
  λ few. few-found left no_name [] xs knows-none tt (record { all = few.known; few = let h = few.few in omega (arith, h); old = All-nil (IsAmong few.known); new = few.all }),
)

-- The first new name behind so many.

record NewFrom (left : ℕ) (done : Names) (before : List NameAt) (name : List ℕ) : Type 0 where
  pub all : Names
  pub fresh : Fresh [] all
  pub many : length all ≡ length done + left
  pub old : All (IsAmong all) done
  pub ahead : All (IsAmong all) (names_in before)
  pub used : All (IsAmong (done ++ names_in before)) all
  pub new : IsAmong (done ++ names_in before) name → ⊥

record Found (left : ℕ) (done : Names) (xs : List NameAt) (place : Place) : Type 0 where
  pub before : List NameAt
  pub name : List ℕ
  pub behind : List NameAt
  pub cut : xs ≡ before ++ (name, place) ∷ behind
  pub is : NewFrom left done before name

-- a name that is done stands twice or once
among-once : (done xs : Names) (x z : List ℕ) → IsAmong done x → IsAmong (done ++ x ∷ xs) z → IsAmong (done ++ xs) z
among-once done xs x z early is = of (among-append done (x ∷ xs) z is)
  where
    of : IsAmong done z ⊎ IsAmong (x ∷ xs) z → IsAmong (done ++ xs) z
    of (inl in_done) = among-left done xs z in_done
    of (inr (inl e)) = among-left done xs z (subst (IsAmong done) e early)
    of (inr (inr late)) = among-right done xs z late

among-twice : (done xs : Names) (x z : List ℕ) → IsAmong (done ++ xs) z → IsAmong (done ++ x ∷ xs) z
among-twice done xs x z is = of (among-append done xs z is)
  where
    of : IsAmong done z ⊎ IsAmong xs z → IsAmong (done ++ x ∷ xs) z
    of (inl in_done) = among-left done (x ∷ xs) z in_done
    of (inr late) = among-right done (x ∷ xs) z (inr late)

found-new : (left : ℕ) (known : List ℕ → Bool) (done : Names) (xs : List NameAt) (place : Place) → Knows known done → Fresh [] done →
    extra_name left known xs ≡ Some place → Found left done xs place
found-new left known done [] place knows fresh told = absurd cc
found-new left known done (x ∷ xs) place knows fresh told = by_test (λ l k d. found-new l k d xs place) (known x.0) refl
  where
    Later : Type 0
    Later = (l : ℕ) (k : List ℕ → Bool) (d : Names) → Knows k d → Fresh [] d → extra_name l k xs ≡ Some place → Found l d xs place

    none-new : known x.0 ≡ false → IsAmong done x.0 → ⊥
    none-new test among = let e : true ≡ false = sym (knows.has x.0 among) ∙ test in absurd cc

    by_left : Later → (l : ℕ) → known x.0 ≡ false → extra_name l known (x ∷ xs) ≡ Some place → Found l done (x ∷ xs) place
    by_left later zero test at =
        let h : Some x.1 ≡ Some place = sym (step-extra known x xs test) ∙ at in
        let same : x.1 ≡ place = cc in
        record {
          before = [];
          name = x.0;
          behind = xs;
          cut = ap (λ (p : Place). (x.0, p) ∷ xs) same;
          is = record {
            all = done;
            fresh = fresh;
            many = omega arith;
            old = self-all [] done;
            ahead = All-nil (IsAmong done);
            used = subst (λ (l : Names). All (IsAmong l) done) (sym (append-nil done)) (self-all [] done);
            new = λ among. none-new test (subst (λ (l : Names). IsAmong l x.0) (append-nil done) among);
          };
        }
    by_left later (suc l) test at =
        let rest = later l (and_name x.0 known) (done ++ x.0 ∷ []) (knows-more known done x.0 knows) (fresh-and [] done x.0 fresh (none-new test))
        (sym (step-new l known x xs test) ∙ at) in
        let i = rest.is in
        let laid : (done ++ x.0 ∷ []) ++ names_in rest.before ≡ done ++ x.0 ∷ names_in rest.before = append_assoc done (x.0 ∷ []) (names_in rest.before) in
        let e = length-and done x.0 in
        let m = i.many in
        record {
          before = x ∷ rest.before;
          name = rest.name;
          behind = rest.behind;
          cut = ap (λ (l : List NameAt). x ∷ l) rest.cut;
          is = record {
            all = i.all;
            fresh = i.fresh;
            many = omega (arith, e, m);
            old = all-left (IsAmong i.all) done (x.0 ∷ []) i.old;
            ahead = All-cons (IsAmong i.all) x.0 (names_in rest.before) (All-head (IsAmong i.all) x.0 [] (all-right (IsAmong i.all) done (x.0 ∷ []) i.old)) i.ahead;
            used = subst (λ (l : Names). All (IsAmong l) i.all) laid i.used;
            new = λ among. i.new (subst (λ (l : Names). IsAmong l rest.name) (sym laid) among);
          };
        }

    by_test : Later → (t : Bool) → known x.0 ≡ t → Found left done (x ∷ xs) place
    by_test later true test =
        let rest = later left known done knows fresh (sym (step-known left known x xs test) ∙ told) in
        let i = rest.is in
        let early = knows.told x.0 test in
        record {
          before = x ∷ rest.before;
          name = rest.name;
          behind = rest.behind;
          cut = ap (λ (l : List NameAt). x ∷ l) rest.cut;
          is = record {
            all = i.all;
            fresh = i.fresh;
            many = i.many;
            old = i.old;
            ahead = All-cons (IsAmong i.all) x.0 (names_in rest.before) (among-all (IsAmong i.all) done x.0 i.old early) i.ahead;
            used = All-weaker (IsAmong (done ++ names_in rest.before)) (IsAmong (done ++ x.0 ∷ names_in rest.before)) (among-twice done (names_in rest.before) x.0) i.all i.used;
            new = λ among. i.new (among-once done (names_in rest.before) x.0 rest.name early among);
          };
        }
    by_test later false test = by_left later left test told

new-told : (left : ℕ) (known : List ℕ → Bool) (done : Names) (before : List NameAt) (name : List ℕ) (place : Place) (behind : List NameAt) →
    Knows known done → Fresh [] done → NewFrom left done before name → extra_name left known (before ++ (name, place) ∷ behind) ≡ Some place
new-told left known done [] name place behind knows fresh i = by_left left i.many
  where
    test : known name ≡ false
    test = false_from_ne_true (known name) (λ e. i.new (subst (λ (l : Names). IsAmong l name) (sym (append-nil done)) (knows.told name e)))

    by_left : (l : ℕ) → length i.all ≡ length done + l → extra_name l known ((name, place) ∷ behind) ≡ Some place
    by_left zero many = step-extra known (name, place) behind test
    by_left (suc l) many =
        let h = fresh-more i.all done i.fresh (subst (λ (l : Names). All (IsAmong l) i.all) (append-nil done) i.used) in
        absurd (omega (arith, h, many))
new-told left known done (x ∷ before) name place behind knows fresh i = by_test (λ l k d. new-told l k d before name place behind) (known x.0) refl
  where
    Later : Type 0
    Later = (l : ℕ) (k : List ℕ → Bool) (d : Names) → Knows k d → Fresh [] d → NewFrom l d before name →
        extra_name l k (before ++ (name, place) ∷ behind) ≡ Some place

    rest : List NameAt
    rest = before ++ (name, place) ∷ behind

    here : IsAmong i.all x.0
    here = All-head (IsAmong i.all) x.0 (names_in before) i.ahead

    more : All (IsAmong i.all) (names_in before)
    more = All-tail (IsAmong i.all) x.0 (names_in before) i.ahead

    laid : (done ++ x.0 ∷ []) ++ names_in before ≡ done ++ x.0 ∷ names_in before
    laid = append_assoc done (x.0 ∷ []) (names_in before)

    by_left : Later → (l : ℕ) → length i.all ≡ length done + l → known x.0 ≡ false → extra_name l known (x ∷ rest) ≡ Some place
    by_left later l many test = by_count l many
      where
        fresh-now : Fresh [] (done ++ x.0 ∷ [])
        fresh-now = fresh-and [] done x.0 fresh (λ among. let e : true ≡ false = sym (knows.has x.0 among) ∙ test in absurd cc)

        old : All (IsAmong i.all) (done ++ x.0 ∷ [])
        old = All-append (IsAmong i.all) done (x.0 ∷ []) i.old (All-cons (IsAmong i.all) x.0 [] here (All-nil (IsAmong i.all)))

        by_count : (k : ℕ) → length i.all ≡ length done + k → extra_name k known (x ∷ rest) ≡ Some place
        by_count zero at =
            let h = fresh-more (done ++ x.0 ∷ []) i.all fresh-now old in
            let e = length-and done x.0 in
            absurd (omega (arith, h, e, at))
        by_count (suc k) at =
            let e = length-and done x.0 in
            step-new k known x rest test
            ∙ later k (and_name x.0 known) (done ++ x.0 ∷ []) (knows-more known done x.0 knows) fresh-now
            (record {
              all = i.all;
              fresh = i.fresh;
              many = omega (arith, e, at);
              old = old;
              ahead = more;
              used = subst (λ (l : Names). All (IsAmong l) i.all) (sym laid) i.used;
              new = λ among. i.new (subst (λ (l : Names). IsAmong l name) laid among);
            })

    by_test : Later → (t : Bool) → known x.0 ≡ t → extra_name left known (x ∷ rest) ≡ Some place
    by_test later true test =
        let early = knows.told x.0 test in
        step-known left known x rest test
        ∙ later left known done knows fresh
        (record {
          all = i.all;
          fresh = i.fresh;
          many = i.many;
          old = i.old;
          ahead = more;
          used = All-weaker (IsAmong (done ++ x.0 ∷ names_in before)) (IsAmong (done ++ names_in before)) (λ z. among-once done (names_in before) x.0 z early) i.all i.used;
          new = λ among. i.new (among-twice done (names_in before) x.0 name among);
        })
    by_test later false test = by_left later left i.many test

pub new-decides : (left : ℕ) (xs : List NameAt) (place : Place) → (extra_name left no_name xs ≡ Some place) ↔ IsNewBehind left xs place
new-decides left xs place = (
  λ told.
      let f = found-new left no_name [] xs place knows-none tt told in
      let i = f.is in
      record {
        before = f.before;
        name = f.name;
        behind = f.behind;
        cut = f.cut;
        many = record { known = i.all; differ = fresh-distinct i.all i.fresh; many = let h = i.many in omega (arith, h); all = i.ahead; used = i.used };
        new = i.new;
      },
  λ is.
      let m = is.many in
      ap (extra_name left no_name) is.cut
      ∙ new-told left no_name [] is.before is.name place is.behind knows-none tt
      (record {
        all = m.known;
        fresh = distinct-fresh m.known m.differ;
        many = let h = m.many in omega (arith, h);
        old = All-nil (IsAmong m.known);
        ahead = m.all;
        used = m.used;
        new = is.new;
      }),
)
