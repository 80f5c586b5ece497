pub mod MostRows
pub mod RowsAmong
