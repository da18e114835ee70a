-- Chains of paths and ways along their ends. A chain joins its ends, and different points that are joined have a chain. With the points
-- that a chain passes, it is a way: where each pair of ends is a cut, two paths with the same ends are one, so that to repeat no path is to
-- repeat no step, hence loop-free, and the only loop-free way gives the only chain that repeats no path.
-- Assumes nothing.
use mathlib.Core.Path.{◌≡◌, refl, sym, ap, ap₂, ◌∙◌, subst}
use mathlib.Core.Logic.{inl, inr}
use mathlib.Core.List.Memᴰ
use mathlib.Core.List.{List, [], ◌∷◌, map}
use Rattle.lists.specs.Member.{◌∈◌, here, there, Among, Once, rest}
use Rattle.lists.proofs.TestLaws.{either}
use Rattle.lists.proofs.MemberLaws.{rest-or}
use Rattle.lists.proofs.MapLaws.{in_map, of_map, map-rest}
use Rattle.joined.specs.Joined.{Link, Joined, stay, Joins}
use Rattle.joined.specs.Tree.{Cuts}
use Rattle.joined.specs.Way.{Way, stop, go, Free, On, NoStepTwice}
use Rattle.joined.specs.Chain.{Reads, Chain, last, next, Leads, Joining, OurWay}
use Rattle.joined.proofs.JoinedLaws.{one, then, firsts, seconds}
use Rattle.joined.proofs.OtherLaws.{alike-sym, alike-trans, alike-joined}
use Rattle.joined.proofs.WayLaws.{joined_free}
use Rattle.joined.proofs.OnlyWay.{only-way, no_loop}

module _ {A B : Type 0} (ends : B → A × A) where
  -- Chains and joined points

  -- what joins the ends of each path joins the ends of the chain
  pub chain-through : {L : List (A × A)} {x y : A} {bs : List B} → Chain ends x bs y →
      ((b : B) → b ∈ bs → Joined L (ends b).0 (ends b).1) → Joined L x y
  chain-through (last r) h = alike-joined r (h _ (here refl))
  chain-through (next r c) h = then (alike-joined r (h _ (here refl))) (chain-through c (λ b m. h b (there m)))

  pub leads-joined : {J : List B} {x y : A} → Leads ends J x y → Joined (map ends J) x y
  leads-joined l = chain-through l.chain (λ b m. one (inl (in_map ends (l.among b m))))

  pub joining-joins : Discrete A → {pins : List A} {J : List B} → Joining ends pins J → Joins pins (map ends J)
  joining-joins same {pins} {J} h x y i k = at (same x y)
    where
      at : Dec (x ≡ y) → Joined (map ends J) x y
      at (yes e) = stay e
      at (no n) = leads-joined (h x y i k n)

  -- T19: with one pin, no path at all is a joining
  pub lone-joining : (pin : A) → Joining ends (pin ∷ []) []
  lone-joining pin x y i k n = absurd (n (Memᴰ.eq_of_singleton i ∙ sym (Memᴰ.eq_of_singleton k)))

  -- the path of a link
  pub record Path (J : List B) (x y : A) : Type 0 where
    pub path : B
    pub stands : path ∈ J
    pub reads : Reads ends path x y

  pub link-path : (J : List B) {x y : A} → Link (map ends J) x y → Path J x y
  link-path J (inl m) =
      let s = of_map ends J m in
      record { path = s.entry; stands = s.stands; reads = inl (firsts s.is, seconds s.is) }
  link-path J (inr m) =
      let s = of_map ends J m in
      record { path = s.entry; stands = s.stands; reads = inr (seconds s.is, firsts s.is) }

  -- Chains with the points that they pass

  pub data Passes (J : List B) : A → List B → List A → A → Type 0 where
    done : {x y : A} → x ≡ y → Passes J x [] [] y
    pass : {b : B} {bs : List B} {x y z : A} {ps : List A} → b ∈ J → Reads ends b x y → Passes J y bs ps z → Passes J x (b ∷ bs) (y ∷ ps) z

  module _ {J : List B} where
    reads-link : {b : B} {x y : A} → b ∈ J → Reads ends b x y → Link (map ends J) x y
    reads-link m (inl e) = inl (Memᴰ.cast (ap₂ (λ (p q : A). (p, q)) e.0 e.1) (in_map ends m))
    reads-link m (inr e) = inr (Memᴰ.cast (ap₂ (λ (p q : A). (p, q)) e.1 e.0) (in_map ends m))

    passes-way : {x y : A} {bs : List B} {ps : List A} → Passes J x bs ps y → Way (map ends J) x ps y
    passes-way (done e) = stop e
    passes-way (pass m r w) = go (reads-link m r) (passes-way w)

    way-passes : {x y : A} {ps : List A} → Way (map ends J) x ps y → (bs : List B) × Passes J x bs ps y
    way-passes (stop e) = ([], done e)
    way-passes (go l w) =
        let p = link-path J l in
        let r = way-passes w in
        (p.path ∷ r.0, pass p.stands p.reads r.1)

    chain-passes : {x y : A} {bs : List B} → Chain ends x bs y → Among bs J → (ps : List A) × Passes J x bs ps y
    chain-passes (last {y = y} r) h = (y ∷ [], pass (h _ (here refl)) r (done refl))
    chain-passes (next {y = y} r c) h =
        let w = chain-passes c (λ b m. h b (there m)) in
        (y ∷ w.0, pass (h _ (here refl)) r w.1)

    passes-among : {x y : A} {bs : List B} {ps : List A} → Passes J x bs ps y → Among bs J
    passes-among (done e) d i = elim i [ ]
    passes-among (pass m r w) d i = either (λ e. Memᴰ.cast e m) (passes-among w d) (Memᴰ.cases_cons i)

    -- a path and the passing of the rest make a chain
    passes-chain : {b : B} {x y z : A} {bs : List B} {ps : List A} → Reads ends b x y → Passes J y bs ps z → Chain ends x (b ∷ bs) z
    passes-chain (inl r) (done e) = last (inl (r.0, sym e ∙ r.1))
    passes-chain (inr r) (done e) = last (inr (r.0, sym e ∙ r.1))
    passes-chain {b = b} {x = x} r (pass {b = b'} {bs = bs} {x = x'} {y = y} {z = z} {ps = ps} m k w) =
        next r (passes-chain {b = b'} k w)

    -- No path twice

    -- the ends of a path of the chain are points that it passes
    ends-passed : {x y : A} {bs : List B} {ps : List A} → Passes J x bs ps y → (b : B) → b ∈ bs →
        ((ends b).0 ∈ (x ∷ ps)) × ((ends b).1 ∈ (x ∷ ps))
    ends-passed (done e) b i = elim i [ ]
    ends-passed {x} (pass {b = c} {y = y} {ps = ps} m r w) b i = either (at r) (λ k. further (ends-passed w b k)) (Memᴰ.cases_cons i)
      where
        at : Reads ends c x y → b ≡ c → ((ends b).0 ∈ (x ∷ (y ∷ ps))) × ((ends b).1 ∈ (x ∷ (y ∷ ps)))
        at (inl e) k = (here (ap (λ z. (ends z).0) k ∙ sym e.0), there (here (ap (λ z. (ends z).1) k ∙ sym e.1)))
        at (inr e) k = (there (here (ap (λ z. (ends z).0) k ∙ sym e.1)), here (ap (λ z. (ends z).1) k ∙ sym e.0))

        further : ((ends b).0 ∈ (y ∷ ps)) × ((ends b).1 ∈ (y ∷ ps)) → ((ends b).0 ∈ (x ∷ (y ∷ ps))) × ((ends b).1 ∈ (x ∷ (y ∷ ps)))
        further q = (there q.0, there q.1)

    -- no point twice, no path twice
    free-once : {x y : A} {bs : List B} {ps : List A} → Passes J x bs ps y → Once (x ∷ ps) → Once bs
    free-once (done e) o = tt
    free-once {x} (pass {b = b} {bs = bs} {y = y} {ps = ps} m r w) o = (λ i. at r (ends-passed w b i), free-once w o.1)
      where
        at : Reads ends b x y → ((ends b).0 ∈ (y ∷ ps)) × ((ends b).1 ∈ (y ∷ ps)) → ⊥
        at (inl e) q = o.0 (Memᴰ.cast e.0 q.0)
        at (inr e) q = o.0 (Memᴰ.cast e.0 q.1)

  -- between different points that are joined there is a chain with no path twice
  pub joined-our-way : Discrete A → (J : List B) {x y : A} → (x ≡ y → ⊥) → Joined (map ends J) x y → (bs : List B) × OurWay ends J x y bs
  joined-our-way same J {x} {y} n j = at (joined_free same j)
    where
      ours : {bs : List B} {ps : List A} → Passes J x bs ps y → Once (x ∷ ps) → OurWay ends J x y bs
      ours (done e) o = absurd (n e)
      ours (pass m r w) o =
          record { chain = passes-chain r w; among = passes-among (pass m r w); once = free-once (pass m r w) o }

      at : Free (map ends J) x y → (bs : List B) × OurWay ends J x y bs
      at f = let p = way-passes f.way in (p.0, ours p.1 f.once)

  pub joins-joining : Discrete A → {pins : List A} {J : List B} → Joins pins (map ends J) → Joining ends pins J
  joins-joining same {pins} {J} h x y i k n = at (joined-our-way same J n (h x y i k))
    where
      at : (bs : List B) × OurWay ends J x y bs → Leads ends J x y
      at w = record { paths = w.0; chain = w.1.chain; among = w.1.among }

  -- The only chain with no path twice

  module _ (K : List B) (cuts : Cuts (map ends K)) where
    -- two paths with the same ends are one
    same-path : {b c : B} {x y : A} → b ∈ K → c ∈ K → Reads ends b x y → Reads ends c x y → c ≡ b
    same-path {b} {c} m k r s = either (λ e. e) (λ i. absurd (twice i)) (rest-or m k)
      where
        twice : c ∈ rest m → ⊥
        twice i =
            let l : ((ends c).0, (ends c).1) ∈ rest (in_map ends m) = rw (map-rest ends m) (in_map ends i) in
            cuts (ends b).0 (ends b).1 (in_map ends m) (alike-joined (alike-trans (alike-sym r) s) (one (inl l)))

    -- a step on the way is a path of the chain
    on-path : {a b x y : A} {bs : List B} {ps : List A} → Passes K x bs ps y → On a b x ps → (c : B) × (c ∈ bs) × (c ∈ K) × Reads ends c a b
    on-path (done e) o = absurd o
    on-path (pass {b = c} m r w) (inl o) = (c, here refl, m, alike-trans o r)
    on-path (pass m r w) (inr o) = let p = on-path w o in (p.0, there p.1, p.2, p.3)

    -- no path twice, no step twice
    once_steps : {x y : A} {bs : List B} {ps : List A} → Passes K x bs ps y → Once bs → NoStepTwice x ps
    once_steps (done e) o = tt
    once_steps (pass {b = b} m r w) o =
        (λ h. let p = on-path w h in o.0 (Memᴰ.cast (sym (same-path m p.2 r p.3)) p.1), once_steps w o.1)

    -- the same points, the same paths
    same-paths : {x y : A} {bs cs : List B} {ps : List A} → Passes K x bs ps y → Passes K x cs ps y → bs ≡ cs
    same-paths (done e) (done f) = refl
    same-paths (pass m r w) (pass k s v) = ap₂ (λ (h : B) (t : List B). h ∷ t) (same-path k m s r) (same-paths w v)

    pub our-way-only : Discrete A → {x y : A} {bs cs : List B} → OurWay ends K x y bs → OurWay ends K x y cs → bs ≡ cs
    our-way-only same {x} {y} {bs} {cs} u v = at (chain-passes u.chain u.among) (chain-passes v.chain v.among)
      where
        at : (ps : List A) × Passes K x bs ps y → (qs : List A) × Passes K x cs qs y → bs ≡ cs
        at p q =
            let free = no_loop cuts (passes-way p.1) (once_steps p.1 u.once) in
            let other = no_loop cuts (passes-way q.1) (once_steps q.1 v.once) in
            let e : q.0 ≡ p.0 = only-way cuts same (passes-way q.1) (passes-way p.1) other free in
            same-paths p.1 (subst (λ (qs : List A). Passes K x cs qs y) e q.1)
