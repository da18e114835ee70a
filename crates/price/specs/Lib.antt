-- The price of metal by a bureau's list of bands, which is tested before it sets a rate.
--
-- Metal times rate counts thousandths of a hundredth, and `rounded` alone says how they become hundredths. A list that prices anything is
-- kept in order, so that more metal is never charged less (proofs/LongerLaws).
--
--   Charge     reaches metal b                 the band's limit is not below the metal
--              rounded n, charge metal rate    thousandths to whole ones, a half to the even one; the charge at a rate
--              by_first metal bs                the charge by the first band that reaches the metal, or 32
--   Price      priced metal s                  31, then 37 for a list that falls back, then 32, then the charge
--              told_price r                     what the code's answer says
pub mod Charge
pub mod Price
