pub mod Lotteries
