-- What a worker did, one job at a time.
use Rattle.std.proofs.Common.{◌≡◌, ℕ, ◌+◌, ◌-◌, ◌^◌, ◌<◌, min, List, [], ◌∷◌, ◌++◌, length, length-append, All, sym, refl, ap, ◌∙◌, subst, arith}
use Rattle.std.proofs.lemmas.List.Elements.{All-head, All-tail}
use Rattle.swf_scheduler.specs.declared.rule.Job.{Job}
use Rattle.swf_scheduler.specs.declared.rule.Hand.{Hand}
use Rattle.swf_scheduler.specs.Rule.{hand, numbers, IsRight}
use Rattle.swf_scheduler.specs.Worked.{Works, Leads, IsWorked}

pub numbers-append : {W : Type 0} (a b : List (Job W)) → numbers (a ++ b) ≡ numbers a ++ numbers b
numbers-append [] b = refl
numbers-append (j ∷ js) b = ap (λ ns. j.number ∷ ns) (numbers-append js b)

module _ {W Tool Done : Type 0} (gives : W → Tool → Tool → Done → Type 0) where
  works_more : (jobs : List (Job W)) (ds : List Done) (t m u : Tool) (job : Job W) (d : Done) → Works gives jobs ds t m → gives job.work m u d → Works gives (jobs ++ job ∷ []) (ds ++ d ∷ []) t u
  works_more [] [] t m u job d same h = (u, subst (λ x. gives job.work x u d) (sym same) h, refl)
  works_more [] (e ∷ ds) t m u job d is h = absurd is
  works_more (j ∷ jobs) [] t m u job d is h = absurd is
  works_more (j ∷ jobs) (e ∷ ds) t m u job d is h = (is.0, is.1, works_more jobs ds is.0 m u job d is.2 h)

  pub leads : (given : List W) (jobs : List (Job W)) (ds : List Done) (t u : Tool) → Works gives jobs ds t u → All (IsRight given) jobs → Leads gives given (numbers jobs) ds t u
  leads given [] [] t u is right = is
  leads given [] (e ∷ ds) t u is right = is
  leads given (j ∷ jobs) [] t u is right = is
  leads given (j ∷ jobs) (e ∷ ds) t u is right = (j.work, is.0, All-head (IsRight given) j jobs right, is.1, leads given jobs ds is.0 u is.2 (All-tail (IsRight given) j jobs right))

  pub has_part : (t u : Tool) (n : ℕ) (taken : List ℕ) (v : Hand W) → IsWorked gives t u n taken v → 0 < v.parts
  has_part t u n taken v is = let e = ap (λ (x : Hand W). x.parts) is.knows in omega arith

  pub worked_more : (t m u : Tool) (n k : ℕ) (taken more : List ℕ) (v w : Hand W) (job : Job W) (d : Done) → IsWorked gives t m n taken v → w ≡ hand v.parts v.gives v.given (v.taken ++ job ∷ []) → gives job.work m u d
      → more ≡ taken ++ job.number ∷ [] → k ≡ min (n + 1) (2 ^ 64 - 1) → length more < 2 ^ 63 → IsWorked gives t u k more w
  worked_more t m u n k taken more v w job d is step done listed counted short = record {
    jobs = is.jobs ++ job ∷ [];
    results = is.results ++ d ∷ [];
    knows = step ∙ ap (λ (x : Hand W). hand x.parts x.gives x.given (x.taken ++ job ∷ [])) is.knows;
    listed = numbers-append is.jobs (job ∷ []) ∙ ap (λ l. l ++ job.number ∷ []) is.listed ∙ sym listed;
    works = works_more is.jobs is.results t m u job d is.works done;
    counted = (let a = is.counted in let b = ap length listed in omega (arith, length-append taken (job.number ∷ [])));
  }
