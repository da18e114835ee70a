-- Points and pairs
pub mod JoinedLaws
pub mod PairLaws
pub mod LabelLaws
pub mod CountLaws
pub mod OtherLaws
pub mod CostLaws
-- Trees and ways
pub mod TreeLaws
pub mod WayLaws
pub mod OnlyWay
pub mod OneTreeLaws
-- Kruskal's choice
pub mod LightLaws
pub mod KeepLaws
pub mod KeepingLaws
pub mod TableLaws
pub mod ShortestLaws
pub mod ChainLaws
pub mod Ours
pub mod Worked
-- Another kind of points
pub mod CarriedLaws
-- The refiner
pub mod GraftLaws
pub mod TowardLaws
pub mod LaidLaws
pub mod ExchangeLaws
pub mod PruneLaws
