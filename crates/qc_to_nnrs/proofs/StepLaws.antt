-- Where steps lead, whatever is said of statements.
use Rattle.std.proofs.Common.{◌≡◌, ◌==◌, ◌<◌, ◌≤◌, ℕ, ◌+◌, Bool, true, false, cond, List, [], ◌∷◌, ◌++◌, Some}
use Rattle.std.proofs.Common.{refl, ap, ◌∙◌, arith, append_assoc, length-append}
use Rattle.std.proofs.lemmas.Bool.Decides.{nat_tests}
use Rattle.qc_nnrs.specs.declared.tree.NnrsExpr.{NnrsExpr}
use Rattle.qc_nnrs.specs.declared.tree.NnrsStmt.{NnrsStmt}
use Rattle.qc_nnrs.specs.Meaning.{Class, Frame, class_of}
use Rattle.qc_to_nnrs.specs.declared.steps.Step.{Step}
use Rattle.qc_to_nnrs.specs.inner.Statements.{Made, bind, wrap, after, with_step}

-- ---- steps before a statement

pub wrap_append : (bs cs : List Step) (s : NnrsStmt) → wrap (bs ++ cs) s ≡ wrap bs (wrap cs s)
wrap_append [] cs s = refl
wrap_append (b ∷ bs) cs s = ap (bind b) (wrap_append bs cs s)

pub wrap_last : (bs : List Step) (b : Step) (s : NnrsStmt) → wrap (bs ++ b ∷ []) s ≡ wrap bs (bind b s)
wrap_last bs b s = wrap_append bs (b ∷ []) s

-- lists of steps one behind another
pub ruleset of_steps = (append_assoc, length-append)

-- ---- frames

pub same_number : (n : ℕ) → (n == n) ≡ true
same_number n = grind (arith, nat_tests)

other_number : (x n : ℕ) → x < n → (n == x) ≡ false
other_number x n lt = grind (arith, nat_tests)

pub here : (n : ℕ) (c : Class) (g : Frame) → class_of n ((n, c) ∷ g) ≡ Some c
here n c g = ap (λ (t : Bool). cond t (Some c) (class_of n g)) (same_number n)

pub there : (x n : ℕ) (c : Class) (g : Frame) → x < n → class_of x ((n, c) ∷ g) ≡ class_of x g
there x n c g lt = ap (λ (t : Bool). cond t (Some c) (class_of x g)) (other_number x n lt)

-- the variables below n are in the second frame as in the first
abbrev pub Same : ℕ → Frame → Frame → Type 0
Same n g h = (x : ℕ) → x < n → class_of x h ≡ class_of x g

pub same_itself : (n : ℕ) (g : Frame) → Same n g g
same_itself n g x lt = refl

-- a variable from n on changes none of them
pub same_under : (n k : ℕ) (c : Class) (g h : Frame) → n ≤ k → Same n g h → Same n g ((k, c) ∷ h)
same_under n k c g h le s x lt = there x k c h (omega (arith, le, lt)) ∙ s x lt

-- ---- where steps lead

-- what is said of a statement behind the steps is said of it in the second frame, where those below n are the same
pub record Leads (S : Type 0) (says : NnrsStmt → Frame → S) (n : ℕ) (g : Frame) (bs : List Step) (h : Frame)
    : Type 0 where
  pub runs : (s : NnrsStmt) → says (wrap bs s) g ≡ says s h
  pub same : Same n g h

-- the steps lead somewhere, and the expression is good there, whatever becomes of the numbers that are free
pub record Ends (S : Type 0) (says : NnrsStmt → Frame → S) (good : NnrsExpr → Frame → Type 0) (n : ℕ) (g : Frame)
    (m : Made) : Type 0 where
  pub frame : Frame
  pub leads : Leads S says n g m.0 frame
  pub is : (h : Frame) → Same (after n m.0) frame h → good m.1 h

module _ (S : Type 0) (says : NnrsStmt → Frame → S) where
  leads_none : (n : ℕ) (g : Frame) → Leads S says n g [] g
  leads_none n g = record { runs = λ s. refl; same = same_itself n g }

  leads_on : (n k : ℕ) (g h i : Frame) (bs cs : List Step) → n ≤ k → Leads S says n g bs h → Leads S says k h cs i
      → Leads S says n g (bs ++ cs) i
  leads_on n k g h i bs cs le p q = record {
    runs = λ s. ap (λ (t : NnrsStmt). says t g) (wrap_append bs cs s) ∙ p.runs (wrap cs s) ∙ q.runs s;
    same = λ x lt. q.same x (omega (arith, le, lt)) ∙ p.same x lt;
  }

  -- the step binds k as the class
  abbrev pub Binds : ℕ → Class → Frame → Step → Type 0
  Binds k c g b = (s : NnrsStmt) → says (bind b s) g ≡ says s ((k, c) ∷ g)

  leads_step : (n k : ℕ) (c : Class) (g h : Frame) (bs : List Step) (b : Step) → n ≤ k → Leads S says n g bs h
      → Binds k c h b → Leads S says n g (with_step bs b) ((k, c) ∷ h)
  leads_step n k c g h bs b le p q = record {
    runs = λ s. ap (λ (t : NnrsStmt). says t g) (wrap_last bs b s) ∙ p.runs (bind b s) ∙ q s;
    same = same_under n k c g h le p.same;
  }

  -- no steps
  pub ends_leaf : (good : NnrsExpr → Frame → Type 0) (n : ℕ) (g : Frame) (x : NnrsExpr)
      → ((h : Frame) → Same n g h → good x h) → Ends S says good n g ([], x)
  ends_leaf good n g x is = record {
    frame = g;
    leads = leads_none n g;
    is = λ h same. is h (λ y lt. same y (omega (arith, lt)));
  }

  -- the same steps
  pub ends_as : (p good : NnrsExpr → Frame → Type 0) (n : ℕ) (g : Frame) (m : Made) (y : NnrsExpr)
      → Ends S says p n g m → ((h : Frame) → p m.1 h → good y h) → Ends S says good n g (m.0, y)
  ends_as p good n g m y e is = record {
    frame = e.frame;
    leads = e.leads;
    is = λ h same. is h (e.is h same);
  }

  -- one step more, which binds k
  pub ends_step : (good : NnrsExpr → Frame → Type 0) (n k : ℕ) (c : Class) (g h : Frame) (bs : List Step) (b : Step)
      (y : NnrsExpr) → k ≡ after n bs → Leads S says n g bs h → Binds k c h b
      → ((i : Frame) → class_of k i ≡ Some c → good y i) → Ends S says good n g (with_step bs b, y)
  ends_step good n k c g h bs b y at leads binds is = record {
    frame = (k, c) ∷ h;
    leads = leads_step n k c g h bs b (omega (arith, at)) leads binds;
    is = λ i same. is i (same k (omega (arith, at, length-append bs (b ∷ []))) ∙ here k c h);
  }

  -- the steps of a tree behind others, from k on
  pub ends_behind : (p good : NnrsExpr → Frame → Type 0) (n k : ℕ) (g h : Frame) (bs : List Step) (m : Made)
      (y : NnrsExpr) → k ≡ after n bs → Leads S says n g bs h → Ends S says p k h m
      → ((i : Frame) → Same k h i → p m.1 i → good y i) → Ends S says good n g (bs ++ m.0, y)
  ends_behind p good n k g h bs m y at leads e is = record {
    frame = e.frame;
    leads = leads_on n k g h e.frame bs m.0 (omega (arith, at)) leads e.leads;
    is = λ i same.
        let ends : after n (bs ++ m.0) ≡ after k m.0 = omega (arith, at, length-append bs m.0) in
        is i (λ x lt. same x (omega (arith, at, lt, length-append bs m.0)) ∙ e.leads.same x lt)
        (e.is i (λ x lt. same x (omega (arith, ends, lt))));
  }

  -- a tree whose value a step binds, and a tree behind it
  pub ends_bound : (good : NnrsExpr → Frame → Type 0) (n k : ℕ) (c : Class) (g h : Frame) (bs : List Step) (b : Step)
      (m : Made) → k ≡ after n bs → Leads S says n g bs h → Binds k c h b → Ends S says good (k + 1) ((k, c) ∷ h) m
      → Ends S says good n g (with_step bs b ++ m.0, m.1)
  ends_bound good n k c g h bs b m at leads binds e =
      ends_behind good good n (k + 1) g ((k, c) ∷ h) (with_step bs b) m m.1
      (omega (arith, at, length-append bs (b ∷ []))) (leads_step n k c g h bs b (omega (arith, at)) leads binds) e
      (λ i same is. is)
