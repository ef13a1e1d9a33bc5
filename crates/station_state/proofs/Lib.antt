pub mod ClassFaultRows
